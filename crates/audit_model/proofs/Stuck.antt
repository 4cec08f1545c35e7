-- Where records are left and none of the next ones may follow, there is no merging.
use Rattle.std.proofs.Common.{◌≡◌, ℕ, suc, ◌<◌, ◌≤◌, ◌⊎◌, inl, inr, Bool, true, false, cond, List, [], ◌∷◌, length, refl, ap, ◌∙◌, subst, arith}
use Rattle.std.proofs.lemmas.Bool.{cases_lt}
use Rattle.migration_types.specs.declared.records.LogName.{LogName}
use Rattle.migration_types.specs.Sessions.{Recorded}
use Rattle.migration_types.specs.Receipts.{Name}
use Rattle.audit_model.specs.Names.{log_length, same_log}
use Rattle.audit_model.specs.Mergings.{places_of, IsMerging, Cursors, at_start}
use Rattle.audit_model.specs.Walks.{next, cursors_from, Walks, IsStuck}
use Rattle.audit_model.proofs.Cuts.{cursor_next, cursor_count, from_start, merging_walks}
use Rattle.audit_model.proofs.Cuts.{same_from_test}
use Rattle.audit_model.proofs.Walked.{length_range}

-- a walk never gets past a cut at which all is stuck
within_stuck : (s : Recorded) (c : Cursors) → IsStuck s c → (d : Cursors) (names : List Name) → ((l : LogName) → d l ≤ c l) → Walks s d names → (l : LogName) → cursors_from d names l ≤ c l
within_stuck s c stuck d [] le walks l = le l
within_stuck s c stuck d (n ∷ names) le walks l = within_stuck s c stuck (next d n.0) names (λ m. bound m (same_log n.0 m) refl) walks.1 l
  where
    room : d n.0 < c n.0
    room = go (cases_lt (d n.0) (c n.0))
      where
        go : (d n.0 < c n.0) ⊎ (c n.0 ≤ d n.0) → d n.0 < c n.0
        go (inl lt) = lt
        go (inr ge) = absurd (stuck n (record {
          is_next = omega (arith, walks.0.is_next, le n.0);
          is_there = walks.0.is_there;
          sent_before = λ sent is. omega (arith, walks.0.sent_before sent is, le sent.0);
        }))

    bound : (m : LogName) (b : Bool) → same_log n.0 m ≡ b → next d n.0 m ≤ c m
    bound m true e =
        let same = same_from_test n.0 m e in
        let lt : d m < c m = subst (λ k. d k < c k) same room in
        omega (arith, cursor_next d n.0 m, ap (λ b. cond b (suc (d m)) (d m)) e)
    bound m false e = omega (arith, le m, cursor_next d n.0 m, ap (λ b. cond b (suc (d m)) (d m)) e)

pub stuck_no_merging : (s : Recorded) (c : Cursors) (l : LogName) → IsStuck s c → c l < log_length s l → (order : List Name) → IsMerging s order → ⊥
stuck_no_merging s c l stuck left order merging =
    let below = within_stuck s c stuck at_start order (λ m. omega (arith, from_start m 0)) (merging_walks s order merging) l in
    let count = cursor_count at_start order l in
    let all : length (places_of l order) ≡ log_length s l = ap (λ (xs : List ℕ). length xs) (merging.each_once_in_order l) ∙ length_range 0 (log_length s l) in
    absurd (omega (arith, from_start l (length (places_of l order))))
