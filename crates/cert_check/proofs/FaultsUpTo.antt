-- The misshapen records before one record are those before the next one, with one more if it is misshapen.
use Rattle.std.proofs.Common.{◌≡◌, ℕ, ◌+◌, ◌<◌, ◌≤◌, ◌⊎◌, inl, inr, false, List, [], ◌∷◌, ◌++◌, length, Some, None, refl, sym, ap, ◌∙◌, subst, arith}
use Rattle.std.specs.Prelude.{Contains}
use Rattle.std.proofs.lemmas.Bool.{cases_lt}
use Rattle.std.proofs.lemmas.List.Elements.{All-push, Contains-append_left, Contains-append_right}
use Rattle.std.proofs.lemmas.List.Quantifiers.{all_pairs_push}
use Rattle.migration_types.specs.declared.records.LogName.{LogName}
use Rattle.migration_types.specs.Receipts.{Name, log_index, logs}
use Rattle.migration_types.specs.Sessions.{Recorded, IsSession, line_of}
use Rattle.audit_model.specs.Names.{log_length}
use Rattle.audit_model.specs.declared.reasons.ShapeReason.{ShapeReason}
use Rattle.audit_model.specs.Shape.{is_right}
use Rattle.audit_model.specs.Reasons.{rank}
use Rattle.merge_runs.proofs.Lines.{lines_rise}
use Rattle.merge_runs.proofs.Logs.{index_small}
use Rattle.cert_check.specs.declared.verdict.ShapeFault.{ShapeFault}
use Rattle.cert_check.specs.ShapeFaults.{AreShapeFaults, IsMisshapen, Names, name_of}
use Rattle.cert_check.specs.inner.FaultsUpTo.{AreFaultsAmong, AreFaultsUpTo, IsInLogs, IsUpTo}
use Rattle.cert_check.specs.inner.FirstOfLog.{reason_at}
use Rattle.cert_check.proofs.FirstOfAll.{least_at, none_wrong, same_index, same_line, wrong_at, wrong_there}

abbrev named : LogName → ℕ → Name
named log n = (log, n)

-- the same ones, as those among other records
among_others : (A B : Name → Type 0) (s : Recorded) (found : List ShapeFault) → ((name : Name) → A name → B name) → ((reason : ShapeReason) (name : Name) → is_right s reason name ≡ false → B name → A name) → AreFaultsAmong A s found → AreFaultsAmong B s found
among_others A B s found to back was = record {
  ascending = was.ascending;
  among = λ k d lt. to _ (was.among k d lt);
  misshapen = was.misshapen;
  all = λ reason name wrong is. was.all reason name wrong (back reason name wrong is);
}

pub none_found : (s : Recorded) → AreFaultsAmong (IsInLogs 0) s []
none_found s = record {
  ascending = λ i j d lt under. absurd (omega (arith, under));
  among = λ k d lt. absurd (omega (arith, lt));
  misshapen = λ k d lt. absurd (omega (arith, lt));
  all = λ reason name wrong lt. absurd (omega (arith, lt));
}

-- before the first record of a log
pub log_begun : (s : Recorded) (log : LogName) (count : ℕ) (found : List ShapeFault) → log_index log ≡ count → AreFaultsAmong (IsInLogs count) s found → AreFaultsUpTo s log 0 found
log_begun s log count found at was = among_others (IsInLogs count) (IsUpTo log 0) s found (λ name lt. inl (omega (arith, at, lt))) (λ reason name wrong is. go name is) was
  where
    go : (name : Name) → IsUpTo log 0 name → IsInLogs count name
    go name (inl lt) = omega (arith, at, lt)
    go name (inr is) = absurd (omega (arith, is.1))

-- after the last one
pub log_ended : (s : Recorded) (log : LogName) (count : ℕ) (found : List ShapeFault) → log_index log ≡ count → AreFaultsUpTo s log (log_length s log) found → AreFaultsAmong (IsInLogs (count + 1)) s found
log_ended s log count found at was = among_others (IsUpTo log (log_length s log)) (IsInLogs (count + 1)) s found to back was
  where
    to : (name : Name) → IsUpTo log (log_length s log) name → IsInLogs (count + 1) name
    to name (inl lt) = omega (arith, at, lt)
    to name (inr is) = let own = ap log_index is.0 in omega (arith, at, own)

    back : (reason : ShapeReason) (name : Name) → is_right s reason name ≡ false → IsInLogs (count + 1) name → IsUpTo log (log_length s log) name
    back reason (other, n) wrong lt = go (cases_lt (log_index other) (log_index log))
      where
        go : (log_index other < log_index log) ⊎ (log_index log ≤ log_index other) → IsUpTo log (log_length s log) (other, n)
        go (inl less) = inl less
        go (inr more) =
            let own : other ≡ log = same_index other log (omega (arith, lt, more, at)) in
            inr (own, subst (λ (l : LogName). n < log_length s l) own (wrong_there s reason other n wrong))

-- after the last log
pub all_found : (s : Recorded) (found : List ShapeFault) → AreFaultsAmong (IsInLogs (length logs)) s found → AreShapeFaults s found
all_found s found was = record { ascending = was.ascending; misshapen = was.misshapen; all = λ reason name wrong. was.all reason name wrong (index_small name.0) }

up_more : (log : LogName) (n : ℕ) (name : Name) → IsUpTo log n name → IsUpTo log (n + 1) name
up_more log n name (inl lt) = inl lt
up_more log n name (inr is) = let lt = is.1 in inr (is.0, omega (arith, lt))

-- one of those up to the next record, that is not this one, is up to this one
up_less : (log : LogName) (n : ℕ) (name : Name) → IsUpTo log (n + 1) name → IsUpTo log n name ⊎ (name ≡ named log n)
up_less log n name (inl lt) = inl (inl lt)
up_less log n (own, m) (inr is) = go (cases_lt m n)
  where
    go : (m < n) ⊎ (n ≤ m) → IsUpTo log n (named own m) ⊎ (named own m ≡ named log n)
    go (inl lt) = inl (inr (is.0, lt))
    go (inr le) = let lt = is.1 in let same : m ≡ n = omega (arith, lt, le) in inr (λ i. (is.0 i, same i))

-- a record that has no fault
pub no_more : (s : Recorded) (log : LogName) (n : ℕ) (found : List ShapeFault) → AreFaultsUpTo s log n found → reason_at s (log, n) ≡ None → AreFaultsUpTo s log (n + 1) found
no_more s log n found was none = among_others (IsUpTo log n) (IsUpTo log (n + 1)) s found (up_more log n) (λ reason name wrong is. go reason name wrong (up_less log n name is)) was
  where
    go : (reason : ShapeReason) (name : Name) → is_right s reason name ≡ false → IsUpTo log n name ⊎ (name ≡ named log n) → IsUpTo log n name
    go reason name wrong (inl is) = is
    go reason name wrong (inr same) = none_wrong s (log, n) reason none (subst (λ (o : Name). is_right s reason o ≡ false) same wrong)

-- a misshapen record that stands up to another one has the lesser line
line_before : (s : Recorded) → IsSession s → (log : LogName) (n : ℕ) (f : ShapeFault) → IsMisshapen s f → IsUpTo log n (name_of f) → f.line < line_of s (log, n)
line_before s limits log n f bad (inl less) =
    let lt = lines_rise s limits f.log log f.place n less (wrong_there s f.reason f.log f.place bad.is_wrong) in
    let at = bad.is_line in
    omega (arith, lt, at)
line_before s limits log n f bad (inr is) =
    let lt = same_line s log f.place n is.1 in
    let at = bad.is_line ∙ ap (λ (l : LogName). line_of s (l, f.place)) is.0 in
    omega (arith, lt, at)

-- a record with a fault
pub one_more : (s : Recorded) → IsSession s → (log : LogName) (n : ℕ) (reason : ShapeReason) (found : List ShapeFault) (f : ShapeFault) → AreFaultsUpTo s log n found → f.line ≡ line_of s (log, n) → f.log ≡ log → f.place ≡ n → f.reason ≡ reason → reason_at s (log, n) ≡ Some reason → AreFaultsUpTo s log (n + 1) (found ++ f ∷ [])
one_more s limits log n reason found f was line of place same is = record {
  ascending = all_pairs_push (λ (a b : ShapeFault). a.line < b.line) found f was.ascending (λ k d lt. let less = line_before s limits log n _ (was.misshapen k d lt) (was.among k d lt) in omega (arith, less, line));
  among = All-push (λ (g : ShapeFault). IsUpTo log (n + 1) (name_of g)) found f (λ k d lt. up_more log n _ (was.among k d lt)) (inr (of, omega (arith, place)));
  misshapen = All-push (IsMisshapen s) found f was.misshapen bad;
  all = λ other name wrong up. go other name wrong (up_less log n name up);
}
  where
    name : name_of f ≡ named log n
    name i = (of i, place i)

    bad : IsMisshapen s f
    bad = record {
      is_line = line ∙ ap (line_of s) (sym name);
      is_wrong = subst (λ (o : Name). is_right s f.reason o ≡ false) (sym name) (subst (λ (r : ShapeReason). is_right s r (log, n) ≡ false) (sym same) (wrong_at s (log, n) reason is));
      is_least = λ other wrong. subst (λ (r : ShapeReason). rank r ≤ rank other) (sym same) (least_at s (log, n) reason other is (subst (λ (o : Name). is_right s other o ≡ false) name wrong));
    }

    last : Contains (f ∷ []) f
    last = (0, omega arith, refl)

    go : (other : ShapeReason) (one : Name) → is_right s other one ≡ false → IsUpTo log n one ⊎ (one ≡ named log n) → Names (found ++ f ∷ []) one
    go other one wrong (inl up) = let old = was.all other one wrong up in (old.0, Contains-append_left found (f ∷ []) old.0 old.1, old.2)
    go other one wrong (inr here) = (f, Contains-append_right found (f ∷ []) f last, name ∙ sym here)
