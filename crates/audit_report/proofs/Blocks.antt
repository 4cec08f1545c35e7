-- Runs as long as they can be, made part by part.
use Rattle.std.proofs.Common.{◌≡◌, ◌≢◌, ℕ, zero, suc, ◌+◌, ◌-◌, ◌<◌, ◌≤◌, ◌⊎◌, inl, inr, Bool, true, false, cond, List, [], ◌∷◌, ◌++◌, length, get_or, set, rules, refl, sym, ap, ◌∙◌, subst, arith}
use denote.Enum.Bare.{sameb, same_true}
use Rattle.migration_types.specs.Limits.{longest_log}
use Rattle.migration_types.specs.contracts.records.LogName.{the_type}
use Rattle.std.proofs.lemmas.Bool.{cases_lt}
use Rattle.std.proofs.lemmas.List.{append_assoc}
use Rattle.migration_types.specs.declared.records.LogName.{LogName}
use Rattle.migration_types.specs.declared.records.LogName.TheVariants.{Guest, Source, Link, Lane, Pager}
use Rattle.migration_types.specs.declared.cert.Run.{Run}
use Rattle.migration_types.specs.Receipts.{Name}
use Rattle.audit_model.specs.Names.{same_log}
use Rattle.audit_model.specs.Mergings.{Cursors, moved, at_start, run_names, spelled}
use Rattle.audit_model.specs.Walks.{cursors_from}
use Rattle.audit_model.proofs.Cuts.{same_from_test}
use Rattle.merge_runs.proofs.Walking.{cursors_run, cursors_append, spelled_push, own_moved}
use Rattle.cert_maker.specs.inner.Taking.{TakeRecords}
use Rattle.cert_maker.proofs.Found.{all_push, get_below, get_last, length_push}
use Rattle.audit_report.specs.inner.Parts.{ends, AreBlocks}

-- ---- logs

same_itself : (log : LogName) → sameb the_type log log ≡ true
same_itself Guest = refl
same_itself Source = refl
same_itself Link = refl
same_itself Lane = refl
same_itself Pager = refl

pub same_logs_by : (a b : LogName) (t : Bool) → t ≡ sameb the_type a b → t ≡ true → a ≡ b
same_logs_by a b t e is = same_true the_type (search rules) a b (sym e ∙ is)

pub other_logs_by : (a b : LogName) (t : Bool) → t ≡ sameb the_type a b → t ≡ false → a ≢ b
other_logs_by a b t e is same =
    let f : sameb the_type a b ≡ true = ap (λ (l : LogName). sameb the_type a l) (sym same) ∙ same_itself a in
    cc

-- ---- lists of runs

all_front : (runs : List Run) (run : Run) → TakeRecords (runs ++ run ∷ []) → TakeRecords runs × (0 < run.count)
all_front [] run all = let some = all.0 in (tt, omega (arith, some))
all_front (r ∷ runs) run all = let more = all_front runs run all.1 in ((all.0, more.0), more.1)

pub get_within : (runs : List Run) (k : ℕ) (a b : Run) → k < length runs → get_or runs k a ≡ get_or runs k b
get_within [] k a b lt = absurd (omega arith)
get_within (r ∷ runs) zero a b lt = refl
get_within (r ∷ runs) (suc k) a b lt = get_within runs k a b (omega arith)

set_last : (runs : List Run) (run x : Run) (k : ℕ) → k ≡ length runs → set (runs ++ run ∷ []) k x ≡ runs ++ x ∷ []
set_last [] run x zero e = refl
set_last [] run x (suc k) e = absurd (omega arith)
set_last (r ∷ runs) run x zero e = absurd (omega arith)
set_last (r ∷ runs) run x (suc k) e = ap (λ rs. r ∷ rs) (set_last runs run x k (omega arith))

-- a list that is not empty has a last run
snoc : (runs : List Run) → 0 < length runs → (front : List Run) × (run : Run) × (runs ≡ front ++ run ∷ [])
snoc [] lt = absurd (omega arith)
snoc (r ∷ []) lt = ([], r, refl)
snoc (r ∷ (x ∷ runs)) lt = let more = snoc (x ∷ runs) (omega arith) in (r ∷ more.0, more.1, ap (λ rs. r ∷ rs) more.2)

same_logs : (runs : List Run) (a b d : Run) (k : ℕ) → a.log ≡ b.log → (get_or (runs ++ a ∷ []) k d).log ≡ (get_or (runs ++ b ∷ []) k d).log
same_logs [] a b d zero e = e
same_logs [] a b d (suc k) e = refl
same_logs (r ∷ runs) a b d zero e = refl
same_logs (r ∷ runs) a b d (suc k) e = same_logs runs a b d k e

-- ---- names

run_split : (log : LogName) (place m n : ℕ) → run_names log place (m + n) ≡ run_names log place m ++ run_names log (place + m) n
run_split log place zero n =
    let a : zero + n ≡ n = omega arith in
    let b : place ≡ place + zero = omega arith in
    ap (λ k. run_names log place k) a ∙ ap (λ k. run_names log k n) b
run_split log place (suc m) n =
    let a : suc m + n ≡ suc (m + n) = omega arith in
    let b : suc place + m ≡ place + suc m = omega arith in
    ap (λ k. run_names log place k) a ∙ ap (λ (ns : List Name). (log, place) ∷ ns) (run_split log (suc place) m n ∙ ap (λ k. run_names log (suc place) m ++ run_names log k n) b)

-- the cursors after a part more
pub ends_after : (runs more : List Run) (log : LogName) (n : ℕ) → spelled more ≡ spelled runs ++ run_names log (ends runs log) n → ends more ≡ moved (ends runs) log n
ends_after runs more log n e = ap (cursors_from at_start) e ∙ cursors_append at_start (spelled runs) (run_names log (ends runs log) n) ∙ cursors_run (ends runs) log (ends runs log) n

small_after : (c : Cursors) (log : LogName) (n : ℕ) → ((m : LogName) → c m ≤ longest_log) → c log + n ≤ longest_log → (m : LogName) → moved c log n m ≤ longest_log
small_after c log n small room m = go (same_log log m) refl
  where
    go : (t : Bool) → same_log log m ≡ t → cond t (c m + n) (c m) ≤ longest_log
    go true t = subst (λ (l : LogName). c l + n ≤ longest_log) (same_from_test log m t) room
    go false t = small m

-- what a part more gives
pub record IsAdded (runs : List Run) (log : LogName) (n : ℕ) (more : List Run) : Type 0 where
  pub blocks : AreBlocks more
  pub spelled : spelled more ≡ spelled runs ++ run_names log (ends runs log) n

pub blocks_none : AreBlocks []
blocks_none = record {
  small = λ l. omega arith;
  each = tt;
  alternate = λ k d lt. absurd (omega arith);
  last = λ k d at. absurd (omega arith);
}

-- a run more
pub added_run : (runs more : List Run) (log : LogName) (n : ℕ) → AreBlocks runs → ends runs log + n ≤ longest_log → 0 < n → ((k : ℕ) (d : Run) → k + 1 ≡ length runs → (get_or runs k d).log ≢ log) → more ≡ runs ++ record { log = log; count = n } ∷ [] → IsAdded runs log n more
added_run runs more log n blocks room some apart is = subst (λ (rs : List Run). IsAdded runs log n rs) (sym is) (record { blocks = here; spelled = push })
  where
    run : Run
    run = record { log = log; count = n }

    push : spelled (runs ++ record { log = log; count = n } ∷ []) ≡ spelled runs ++ run_names log (ends runs log) n
    push = spelled_push at_start runs (record { log = log; count = n })

    after : ends (runs ++ record { log = log; count = n } ∷ []) ≡ moved (ends runs) log n
    after = ends_after runs (runs ++ record { log = log; count = n } ∷ []) log n push

    neighbours : (k : ℕ) (x : Run) → k < length runs → (get_or (runs ++ record { log = log; count = n } ∷ []) k x).log ≡ (get_or (runs ++ record { log = log; count = n } ∷ []) (k + 1) x).log → (k + 1 < length runs) ⊎ (length runs ≤ k + 1) → ⊥
    neighbours k x lt same (inl more) = blocks.alternate k x more (ap (λ (r : Run). r.log) (sym (get_below runs (record { log = log; count = n }) x k lt)) ∙ same ∙ ap (λ (r : Run). r.log) (get_below runs (record { log = log; count = n }) x (k + 1) more))
    neighbours k x lt same (inr le) =
        let at : k + 1 ≡ length runs = omega arith in
        apart k x at (ap (λ (r : Run). r.log) (sym (get_below runs (record { log = log; count = n }) x k lt)) ∙ same ∙ ap (λ (r : Run). r.log) (get_last runs (record { log = log; count = n }) x (k + 1) at))

    last_at : (r : Run) → r ≡ record { log = log; count = n } → r.count ≤ ends (runs ++ record { log = log; count = n } ∷ []) r.log
    last_at r e =
        let own : ends (runs ++ record { log = log; count = n } ∷ []) log ≡ ends runs log + n = ap (λ (c : Cursors). c log) after ∙ own_moved (ends runs) log n in
        subst (λ (z : Run). z.count ≤ ends (runs ++ record { log = log; count = n } ∷ []) z.log) (sym e) (omega (arith, own))

    here : AreBlocks (runs ++ record { log = log; count = n } ∷ [])
    here = record {
      small = λ l. subst (λ (c : Cursors). c l ≤ longest_log) (sym after) (small_after (ends runs) log n blocks.small room l);
      each = all_push runs (record { log = log; count = n }) blocks.each some;
      alternate = λ k x lt same. neighbours k x (omega (arith, length_push runs (record { log = log; count = n }))) same (cases_lt (k + 1) (length runs));
      last = λ k x at. last_at (get_or (runs ++ record { log = log; count = n } ∷ []) k x) (get_last runs (record { log = log; count = n }) x k (omega (arith, length_push runs (record { log = log; count = n }))));
    }

-- the last run goes on
grown : (front : List Run) (run : Run) (n : ℕ) → AreBlocks (front ++ run ∷ []) → ends (front ++ run ∷ []) run.log + n ≤ longest_log → IsAdded (front ++ run ∷ []) run.log n (front ++ record { log = run.log; count = run.count + n } ∷ [])
grown front run n blocks room = record { blocks = here; spelled = names }
  where
    more : Run
    more = record { log = run.log; count = run.count + n }

    at : ends (front ++ run ∷ []) run.log ≡ ends front run.log + run.count
    at = ap (λ (c : Cursors). c run.log) (ends_after front (front ++ run ∷ []) run.log run.count (spelled_push at_start front run)) ∙ own_moved (ends front) run.log run.count

    names : spelled (front ++ record { log = run.log; count = run.count + n } ∷ []) ≡ spelled (front ++ run ∷ []) ++ run_names run.log (ends (front ++ run ∷ []) run.log) n
    names =
        spelled_push at_start front (record { log = run.log; count = run.count + n })
        ∙ (ap (λ (ns : List Name). spelled front ++ ns) (run_split run.log (ends front run.log) run.count n)
        ∙ (sym (append_assoc (spelled front) (run_names run.log (ends front run.log) run.count) (run_names run.log (ends front run.log + run.count) n))
        ∙ (ap (λ (ns : List Name). ns ++ run_names run.log (ends front run.log + run.count) n) (sym (spelled_push at_start front run))
        ∙ ap (λ (k : ℕ). spelled (front ++ run ∷ []) ++ run_names run.log k n) (sym at))))

    after : ends (front ++ record { log = run.log; count = run.count + n } ∷ []) ≡ moved (ends (front ++ run ∷ [])) run.log n
    after = ends_after (front ++ run ∷ []) (front ++ record { log = run.log; count = run.count + n } ∷ []) run.log n names

    few_last : run.count ≤ ends (front ++ run ∷ []) run.log
    few_last = omega (arith, at)

    logs : (k : ℕ) (d : Run) → (get_or (front ++ record { log = run.log; count = run.count + n } ∷ []) k d).log ≡ (get_or (front ++ run ∷ []) k d).log
    logs k d = same_logs front (record { log = run.log; count = run.count + n }) run d k refl

    lengths : length (front ++ record { log = run.log; count = run.count + n } ∷ []) ≡ length (front ++ run ∷ [])
    lengths = length_push front (record { log = run.log; count = run.count + n }) ∙ sym (length_push front run)

    last_at : (r : Run) → r ≡ record { log = run.log; count = run.count + n } → r.count ≤ ends (front ++ record { log = run.log; count = run.count + n } ∷ []) r.log
    last_at r e =
        let own : ends (front ++ record { log = run.log; count = run.count + n } ∷ []) run.log ≡ ends (front ++ run ∷ []) run.log + n = ap (λ (c : Cursors). c run.log) after ∙ own_moved (ends (front ++ run ∷ [])) run.log n in
        subst (λ (z : Run). z.count ≤ ends (front ++ record { log = run.log; count = run.count + n } ∷ []) z.log) (sym e) (omega (arith, own, few_last))

    here : AreBlocks (front ++ record { log = run.log; count = run.count + n } ∷ [])
    here =
        let parts = all_front front run blocks.each in
        record {
          small = λ l. subst (λ (c : Cursors). c l ≤ longest_log) (sym after) (small_after (ends (front ++ run ∷ [])) run.log n blocks.small room l);
          each = all_push front (record { log = run.log; count = run.count + n }) parts.0 (omega (arith, parts.1));
          alternate = λ k d lt same. blocks.alternate k d (omega (arith, lengths)) (sym (logs k d) ∙ same ∙ logs (k + 1) d);
          last = λ k d e. last_at (get_or (front ++ record { log = run.log; count = run.count + n } ∷ []) k d) (get_last front (record { log = run.log; count = run.count + n }) d k (omega (arith, length_push front (record { log = run.log; count = run.count + n }))));
        }

-- as the code has it
pub added_last : (runs : List Run) (last d : Run) (log : LogName) (len n : ℕ) → AreBlocks runs → ends runs log + n ≤ longest_log → len ≡ length runs → 0 < len → last ≡ get_or runs (len - 1) d → last.log ≡ log → IsAdded runs log n (set runs (len - 1) (record { log = last.log; count = last.count + n }))
added_last runs last d log len n blocks room long some is same =
    let parts = snoc runs (omega arith) in
    at parts.0 parts.1 parts.2
  where
    at : (front : List Run) (run : Run) → runs ≡ front ++ run ∷ [] → IsAdded runs log n (set runs (len - 1) (record { log = last.log; count = last.count + n }))
    at front run split =
        let k : len - 1 ≡ length front = let h = ap (λ (rs : List Run). length rs) split ∙ length_push front run in omega arith in
        let it : last ≡ run = is ∙ (ap (λ (rs : List Run). get_or rs (len - 1) d) split ∙ get_last front run d (len - 1) k) in
        let logs : run.log ≡ log = ap (λ (r : Run). r.log) (sym it) ∙ same in
        let whole : set runs (len - 1) (record { log = last.log; count = last.count + n }) ≡ front ++ record { log = run.log; count = run.count + n } ∷ [] =
        ap (λ (r : Run). set runs (len - 1) (record { log = r.log; count = r.count + n })) it
        ∙ (ap (λ (rs : List Run). set rs (len - 1) (record { log = run.log; count = run.count + n })) split
        ∙ set_last front run (record { log = run.log; count = run.count + n }) (len - 1) k) in
        let blocks' : AreBlocks (front ++ run ∷ []) = subst (λ (rs : List Run). AreBlocks rs) split blocks in
        let room' : ends (front ++ run ∷ []) run.log + n ≤ longest_log = subst (λ (rs : List Run). ends rs run.log + n ≤ longest_log) split (subst (λ (l : LogName). ends runs l + n ≤ longest_log) (sym logs) room) in
        let done = grown front run n blocks' room' in
        let first : IsAdded (front ++ run ∷ []) run.log n (set runs (len - 1) (record { log = last.log; count = last.count + n })) = subst (λ (rs : List Run). IsAdded (front ++ run ∷ []) run.log n rs) (sym whole) done in
        subst (λ (l : LogName). IsAdded runs l n (set runs (len - 1) (record { log = last.log; count = last.count + n }))) logs (subst (λ (rs : List Run). IsAdded rs run.log n (set runs (len - 1) (record { log = last.log; count = last.count + n }))) (sym split) first)

-- what two looks at the last run find
pub same_last : (runs : List Run) (a b d x : Run) (log : LogName) (len : ℕ) → len ≡ length runs → 0 < len → a ≡ get_or runs (len - 1) d → b ≡ get_or runs (len - 1) x → b.log ≡ log → a.log ≡ log
same_last runs a b d x log len long some p q same = ap (λ (r : Run). r.log) (p ∙ get_within runs (len - 1) d x (omega arith) ∙ sym q) ∙ same

-- a run behind no run, or behind a last one of another log
pub added_first : (runs more : List Run) (log : LogName) (len n : ℕ) → AreBlocks runs → ends runs log + n ≤ longest_log → len ≡ length runs → len ≤ 0 → 0 < n → more ≡ runs ++ record { log = log; count = n } ∷ [] → IsAdded runs log n more
added_first runs more log len n blocks room long none some is = added_run runs more log n blocks room some (λ k d e. absurd (omega arith)) is

pub added_next : (runs more : List Run) (last d : Run) (log : LogName) (len n : ℕ) → AreBlocks runs → ends runs log + n ≤ longest_log → len ≡ length runs → 0 < len → last ≡ get_or runs (len - 1) d → last.log ≢ log → 0 < n → more ≡ runs ++ record { log = log; count = n } ∷ [] → IsAdded runs log n more
added_next runs more last d log len n blocks room long behind is other some more_is = added_run runs more log n blocks room some apart more_is
  where
    apart : (k : ℕ) (x : Run) → k + 1 ≡ length runs → (get_or runs k x).log ≢ log
    apart k x at same =
        let here : len - 1 ≡ k = omega arith in
        let one : last ≡ get_or runs k x = is ∙ (ap (λ j. get_or runs j d) here ∙ get_within runs k d x (omega arith)) in
        other (ap (λ (r : Run). r.log) one ∙ same)
