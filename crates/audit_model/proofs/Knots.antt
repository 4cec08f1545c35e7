-- Where the found order leaves records there is no merging.
use Rattle.std.proofs.Common.{◌≡◌, ℕ, zero, suc, ◌<◌, Bool, true, false, ◌&&◌, cond, List, [], ◌∷◌, Option, Some, None, refl, ap, ◌∙◌, subst}
use Rattle.std.specs.Prelude.{slice_get}
use Rattle.std.specs.List.{find}
use Rattle.std.proofs.lemmas.Bool.{lt-ltb}
use Rattle.migration_types.specs.Receipts.{Name, logs, log_index}
use Rattle.migration_types.specs.Sessions.{Recorded}
use Rattle.audit_model.specs.Names.{log_length, receipt}
use Rattle.audit_model.specs.Mergings.{IsMerging, Cursors, at_start}
use Rattle.audit_model.specs.Walks.{cursors_from, MayFollow, IsStuck}
use Rattle.audit_model.specs.FoundOrder.{is_received, is_ready, first_ready, IsKnot}
use Rattle.audit_model.proofs.Cuts.{log_there}
use Rattle.audit_model.proofs.Stuck.{stuck_no_merging}

both : (a b : Bool) → a ≡ true → b ≡ true → (a && b) ≡ true
both true b e f = f
both false b e f = absurd (cc)

-- a record that may follow is ready
pub may_is_ready : (s : Recorded) (c : Cursors) (name : Name) → MayFollow s c name → is_ready s c name.0 ≡ true
may_is_ready s c name may = both _ _ (lt-ltb (c name.0) (log_length s name.0) (subst (λ n. n < log_length s name.0) may.is_next may.is_there)) (received (receipt s (name.0, c name.0)) refl)
  where
    received : (o : Option Name) → receipt s (name.0, c name.0) ≡ o → is_received c o ≡ true
    received None is = refl
    received (Some sent) is = lt-ltb sent.1 (c sent.0) (may.sent_before sent (ap (λ n. receipt s (name.0, n)) may.is_next ∙ is))

-- where a test finds nothing it holds of nothing
none_found : {A : Type 0} (test : A → Bool) (xs : List A) (n : ℕ) (x : A) → find test xs ≡ None → slice_get xs n ≡ Some x → test x ≡ false
none_found test [] n x none is = absurd (cc)
none_found {A} test (y ∷ xs) n x none is = go (λ e k at. none_found test xs k x e at) (test y) refl none n is
  where
    go : (find test xs ≡ None → (k : ℕ) → slice_get xs k ≡ Some x → test x ≡ false) → (b : Bool) → test y ≡ b → cond b (Some y) (find test xs) ≡ None → (n : ℕ) → slice_get (y ∷ xs) n ≡ Some x → test x ≡ false
    go rec true e none n is = absurd (cc)
    go rec false e none zero is = let same : y ≡ x = cc in subst (λ (z : A). test z ≡ false) same e
    go rec false e none (suc n) is = rec none n is

-- where no log is ready, no next record may follow
pub none_is_stuck : (s : Recorded) (c : Cursors) → first_ready s c ≡ None → IsStuck s c
none_is_stuck s c none name may =
    let e = may_is_ready s c name may in
    let f = none_found (is_ready s c) logs (log_index name.0) name.0 none (log_there name.0) in
    cc

pub knot_no_merging : (s : Recorded) (line : ℕ) → IsKnot s line → (order : List Name) → IsMerging s order → ⊥
knot_no_merging s line knot order merging =
    let c = cursors_from at_start knot.order in
    stuck_no_merging s c knot.is_least_left.log (none_is_stuck s c knot.is_found_order.is_complete) knot.is_least_left.is_left order merging
