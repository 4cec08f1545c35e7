use Rattle.std.proofs.Common.{◌≡◌, sym, ◌∙◌, subst}
use Rattle.std.specs.Prelude.{vec_len}
use Rattle.std.specs.List.{AllZip}
use Rattle.std.proofs.lemmas.List.Elements.{same_from_all_zip}
use Rattle.fault_queue.specs.Waiting.{IsQueue}
use Rattle.fault_queue.proofs.Maps.{entries, clone_entries}
use Rattle.fault_queue.proofs.FaultQueue.another.Goals as goal

same : (c : goal.In_ok-waiting) → entries c.in_ok-waiting.waiting.entries ≡ entries c.self.inside.waiting.entries
same c =
    clone_entries (λ x y. y ≡ x) (λ v w. AllZip (λ x y. y ≡ x) v.items w.items × (vec_len w ≡ vec_len v)) (λ x y e. e) (λ v w e. same_from_all_zip _ v.items w.items e.0 (λ x y z. z))
    c.self.inside.waiting.entries c.in_ok-waiting.waiting.entries c.in_ok-waiting.ensures.cases

pub invariant_of-result : goal.invariant_of-result
invariant_of-result c = subst IsQueue (sym (same c)) c.self.invariant

pub returns : goal.returns
returns c = same c ∙ c.self.view_is
