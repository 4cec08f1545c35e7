-- Each session has a merging, or a cut at which records are left and no next one may follow.
use Rattle.std.proofs.Common.{◌≡◌, ℕ, zero, suc, ◌+◌, ◌-◌, ◌<◌, ◌≤◌, ◌⊎◌, inl, inr, Bool, true, false, cond, List, [], ◌∷◌, Option, Some, None, refl, sym, ap, ◌∙◌, subst, arith}
use Rattle.std.specs.Prelude.{nat_lt}
use Rattle.std.specs.List.{find}
use Rattle.std.proofs.lemmas.Bool.{cases_lt, ltb-true, and_parts}
use Rattle.migration_types.specs.declared.records.LogName.{LogName}
use Rattle.migration_types.specs.declared.records.LogName.TheVariants.{Guest, Source, Link, Lane, Pager}
use Rattle.migration_types.specs.Receipts.{Name, logs}
use Rattle.migration_types.specs.Sessions.{Recorded}
use Rattle.audit_model.specs.Names.{log_length, receipt, same_log}
use Rattle.audit_model.specs.Mergings.{HasMerging, Cursors, at_start}
use Rattle.audit_model.specs.Walks.{MayFollow, next, cursors_from, Walks, IsStuck}
use Rattle.audit_model.specs.FoundOrder.{is_received, is_ready, first_ready}
use Rattle.audit_model.proofs.Cuts.{same_from_test}
use Rattle.audit_model.proofs.Knots.{none_is_stuck}
use Rattle.audit_model.proofs.Stuck.{stuck_no_merging}
use Rattle.audit_model.proofs.Walked.{walk_is_merging}

-- a cut at which records are left, and none of the next ones may follow
pub record IsStuckAt (s : Recorded) (c : Cursors) : Type 0 where
  pub within : (log : LogName) → c log ≤ log_length s log
  pub is_stuck : IsStuck s c
  pub log : LogName
  pub is_left : c log < log_length s log

pub stuck_has_none : (s : Recorded) (c : Cursors) → IsStuckAt s c → HasMerging s → ⊥
stuck_has_none s c at has = stuck_no_merging s c at.log at.is_stuck at.is_left has.0 has.1

found_passes : {A : Type 0} (test : A → Bool) (xs : List A) (x : A) → find test xs ≡ Some x → test x ≡ true
found_passes test [] x e = absurd (cc)
found_passes {A} test (y ∷ xs) x e = go (λ f. found_passes test xs x f) (test y) refl e
  where
    go : (find test xs ≡ Some x → test x ≡ true) → (b : Bool) → test y ≡ b → cond b (Some y) (find test xs) ≡ Some x → test x ≡ true
    go rec true f e = let same : y ≡ x = cc in subst (λ (z : A). test z ≡ true) same f
    go rec false f e = rec e

-- a record that is ready may follow
ready_may : (s : Recorded) (c : Cursors) (log : LogName) → is_ready s c log ≡ true → MayFollow s c (log, c log)
ready_may s c log e =
    let both = and_parts (nat_lt (c log) (log_length s log)) (is_received c (receipt s (log, c log))) e in
    record {
      is_next = refl;
      is_there = ltb-true (c log) (log_length s log) both.0;
      sent_before = λ sent is. ltb-true sent.1 (c sent.0) (sym (ap (is_received c) is) ∙ both.1);
    }

-- how many records are left
abbrev left : Recorded → Cursors → ℕ
left s c =
    (log_length s Guest - c Guest) + ((log_length s Source - c Source) + ((log_length s Link - c Link) + ((log_length s Lane - c Lane) + (log_length s Pager - c Pager))))

left_less : (s : Recorded) (c : Cursors) (log : LogName) → c log < log_length s log → left s (next c log) < left s c
left_less s c Guest lt = omega (arith, lt)
left_less s c Source lt = omega (arith, lt)
left_less s c Link lt = omega (arith, lt)
left_less s c Lane lt = omega (arith, lt)
left_less s c Pager lt = omega (arith, lt)

next_within : (s : Recorded) (c : Cursors) (log : LogName) → ((l : LogName) → c l ≤ log_length s l) → c log < log_length s log → (l : LogName) → next c log l ≤ log_length s l
next_within s c log within lt l = go (same_log log l) refl
  where
    go : (b : Bool) → same_log log l ≡ b → cond b (suc (c l)) (c l) ≤ log_length s l
    go true e = let less = subst (λ k. c k < log_length s k) (same_from_test log l e) lt in omega (arith, less)
    go false e = within l

-- a log that has records left, or none has
any_left : (s : Recorded) (c : Cursors) → ((l : LogName) → c l ≤ log_length s l) → ((log : LogName) × (c log < log_length s log)) ⊎ ((l : LogName) → c l ≡ log_length s l)
any_left s c within = go (cases_lt (c Guest) (log_length s Guest)) (cases_lt (c Source) (log_length s Source)) (cases_lt (c Link) (log_length s Link)) (cases_lt (c Lane) (log_length s Lane)) (cases_lt (c Pager) (log_length s Pager))
  where
    Case : LogName → Type 0
    Case l = (c l < log_length s l) ⊎ (log_length s l ≤ c l)

    go : Case Guest → Case Source → Case Link → Case Lane → Case Pager → ((log : LogName) × (c log < log_length s log)) ⊎ ((l : LogName) → c l ≡ log_length s l)
    go (inl lt) b d e f = inl (Guest, lt)
    go (inr a) (inl lt) d e f = inl (Source, lt)
    go (inr a) (inr b) (inl lt) e f = inl (Link, lt)
    go (inr a) (inr b) (inr d) (inl lt) f = inl (Lane, lt)
    go (inr a) (inr b) (inr d) (inr e) (inl lt) = inl (Pager, lt)
    go (inr a) (inr b) (inr d) (inr e) (inr f) = inr all
      where
        all : (l : LogName) → c l ≡ log_length s l
        all Guest = let le = within Guest in omega (arith, le, a)
        all Source = let le = within Source in omega (arith, le, b)
        all Link = let le = within Link in omega (arith, le, d)
        all Lane = let le = within Lane in omega (arith, le, e)
        all Pager = let le = within Pager in omega (arith, le, f)

-- a walk from a cut to the logs' ends, or to a stuck cut
abbrev Ends : Recorded → Cursors → Type 0
Ends s c = ((order : List Name) × Walks s c order × ((l : LogName) → cursors_from c order l ≡ log_length s l)) ⊎ ((d : Cursors) × IsStuckAt s d)

walk_on : (s : Recorded) (fuel : ℕ) (c : Cursors) → ((l : LogName) → c l ≤ log_length s l) → left s c ≤ fuel → Ends s c
walk_on s zero c within few = go (any_left s c within)
  where
    none : (log : LogName) → c log < log_length s log → ⊥
    none log lt = let less = left_less s c log lt in omega (arith, few, less)

    go : ((log : LogName) × (c log < log_length s log)) ⊎ ((l : LogName) → c l ≡ log_length s l) → Ends s c
    go (inl more) = absurd (none more.0 more.1)
    go (inr all) = inl ([], tt, all)
walk_on s (suc fuel) c within few = go (first_ready s c) refl (λ log lt. walk_on s fuel (next c log) (next_within s c log within lt) (let less = left_less s c log lt in omega (arith, few, less)))
  where
    one_more : (log : LogName) → MayFollow s c (log, c log) → Ends s (next c log) → Ends s c
    one_more log may (inl walk) = inl ((log, c log) ∷ walk.0, (may, walk.1), walk.2)
    one_more log may (inr stuck) = inr stuck

    ended : IsStuck s c → ((log : LogName) × (c log < log_length s log)) ⊎ ((l : LogName) → c l ≡ log_length s l) → Ends s c
    ended stuck (inl more) = inr (c, record { within = within; is_stuck = stuck; log = more.0; is_left = more.1 })
    ended stuck (inr all) = inl ([], tt, all)

    go : (o : Option LogName) → first_ready s c ≡ o → ((log : LogName) → c log < log_length s log → Ends s (next c log)) → Ends s c
    go None e rec = ended (none_is_stuck s c e) (any_left s c within)
    go (Some log) e rec = let may = ready_may s c log (found_passes (is_ready s c) logs log e) in one_more log may (rec log may.is_there)

pub merges_or_stuck : (s : Recorded) → HasMerging s ⊎ ((c : Cursors) × IsStuckAt s c)
merges_or_stuck s = go (walk_on s (left s at_start) at_start (λ l. omega arith) (omega arith))
  where
    go : Ends s at_start → HasMerging s ⊎ ((c : Cursors) × IsStuckAt s c)
    go (inl walk) = inl (walk.0, walk_is_merging s walk.0 (walk.1, walk.2))
    go (inr stuck) = inr stuck
