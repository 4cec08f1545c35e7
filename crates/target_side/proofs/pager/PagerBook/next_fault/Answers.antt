use Rattle.std.proofs.Common.{◌<◌, ◌≤◌, length, sym, ap, ◌∙◌, subst}
use Rattle.migration_types.specs.Limits.{most_records}
use Rattle.target_side.specs.Kept.{part_of as target_of}
use Rattle.target_side.specs.PagerPart.{Paged, faults_by}
use Rattle.target_side.specs.PagerLists.{PagerLists, part_of}
use Rattle.target_side.proofs.Sounds.{sound_with}
use Rattle.target_side.proofs.Settling.{kept_restored, next_fault_over, next_fault_parts}
use Rattle.target_side.proofs.pager.PagerBook.next_fault.Goals as goal

pub invariant_of-self : goal.invariant_of-self
invariant_of-self c =
    sound_with _ _ _ _ c.self.invariant
    (kept_restored _ c.drop_waiters.new.self c.args.self.now c.in_ok-before.before _ (c.self.view_is ∙ c.in-Err.ensures.err.0) c.in_ok-before.ensures.ok c.in_ok-before.ensures.before c.drop_waiters.ensures.kept)

pub returns-in-Err-clause-full : goal.returns-in-Err-clause-full
returns-in-Err-clause-full c h =
    let t = target_of c.args.target.now in
    subst (λ (g : Paged). most_records < length g.pager.log) (sym (next_fault_over (part_of c.args.self.now) t))
    (subst (λ (b : PagerLists). most_records < length (faults_by b.released t.misses (part_of b) t).pager.log) c.in_ok-before.ensures.ok (c.in-Err.ensures.full h))

pub returns-clause-ok : goal.returns-clause-ok
returns-clause-ok c =
    let t = target_of c.args.target.now in
    next_fault_parts (part_of c.args.self.now) t (part_of c.fault-2.new.self) (part_of c.mark_settled.new.self) (target_of c.fault-2.new.target) (target_of c.mark_settled.new.target)
    (c.in_default.ensures.ok ∙ ap (λ (b : PagerLists). faults_by b.released t.misses (part_of b) t) c.in_ok-before.ensures.ok) c.mark_settled.ensures.part c.mark_settled.ensures.target

pub returns-in-Err-clause-memory : goal.returns-in-Err-clause-memory
returns-in-Err-clause-memory c h =
    let t = target_of c.args.target.now in
    subst (λ (g : Paged). length g.pager.log ≤ most_records) (sym (next_fault_over (part_of c.args.self.now) t))
    (subst (λ (b : PagerLists). length (faults_by b.released t.misses (part_of b) t).pager.log ≤ most_records) c.in_ok-before.ensures.ok (c.in-Err.ensures.memory h))
