use Rattle.std.proofs.Common.{◌<◌, ◌≤◌, ◌⊎◌, ℕ, length, sym, ap, ◌∙◌, subst}
use Rattle.migration_types.specs.Limits.{most_records}
use Rattle.target_side.specs.Kept.{part_of as target_of}
use Rattle.target_side.specs.PagerPart.{Paged, delivers_by}
use Rattle.target_side.specs.PagerLists.{PagerLists, part_of}
use Rattle.target_side.proofs.Sounds.{sound_with}
use Rattle.target_side.proofs.Settling.{kept_restored, deliver_over, deliver_logs, deliver_parts}
use Rattle.target_side.proofs.pager.PagerBook.deliver.Goals as goal

pub invariant_of-self : goal.invariant_of-self
invariant_of-self c =
    sound_with _ _ _ _ c.self.invariant
    (kept_restored _ c.drop_waiters.new.self c.args.self.now c.in_ok-before.before _ (c.self.view_is ∙ c.in-Err.ensures.err.0) c.in_ok-before.ensures.ok c.in_ok-before.ensures.before c.drop_waiters.ensures.kept)

pub returns-in-Err-clause-full : goal.returns-in-Err-clause-full
returns-in-Err-clause-full c h =
    let t = target_of c.args.target.now in
    subst (λ (g : Paged). (most_records < length g.pager.log) ⊎ (most_records < length g.target.log)) (sym (deliver_over (part_of c.args.self.now) t))
    (subst (λ (b : PagerLists). (most_records < length (delivers_by b.released (part_of b) t).pager.log) ⊎ (most_records < length (delivers_by b.released (part_of b) t).target.log)) c.in_ok-before.ensures.ok (c.in-Err.ensures.full h))

pub returns-in-Ok-clause-ok : goal.returns-in-Ok-clause-ok
returns-in-Ok-clause-ok c =
    let t = target_of c.args.target.now in
    deliver_parts (part_of c.args.self.now) t (part_of c.bring-2.new.self) (part_of c.mark_settled.new.self) (target_of c.bring-2.new.target) (target_of c.mark_settled.new.target) c.in-Ok.woken
    (c.in-Ok.ensures.ok ∙ ap (λ (b : PagerLists). delivers_by b.released (part_of b) t) c.in_ok-before.ensures.ok) c.mark_settled.ensures.part c.mark_settled.ensures.target

pub returns-in-Err-clause-memory : goal.returns-in-Err-clause-memory
returns-in-Err-clause-memory c h =
    let t = target_of c.args.target.now in
    subst (λ (g : Paged). (length g.pager.log ≤ most_records) × (length g.target.log ≤ most_records)) (sym (deliver_over (part_of c.args.self.now) t))
    (subst (λ (b : PagerLists). (length (delivers_by b.released (part_of b) t).pager.log ≤ most_records) × (length (delivers_by b.released (part_of b) t).target.log ≤ most_records)) c.in_ok-before.ensures.ok (c.in-Err.ensures.memory h))

-- the logs are as long as if no page were settled
pub returns-in_err-look_to_bring-clause-full : goal.returns-in_err-look_to_bring-clause-full
returns-in_err-look_to_bring-clause-full c =
    let logs = deliver_logs (part_of c.args.self.now) (target_of c.args.target.now) in
    λ refused. subst (λ (n : ℕ × ℕ). (most_records < n.0) ⊎ (most_records < n.1)) (λ i. (sym logs.0 i, sym logs.1 i)) c.in_err-look_to_bring.ensures.full

pub returns-in_err-before-clause-memory : goal.returns-in_err-before-clause-memory
returns-in_err-before-clause-memory c =
    let logs = deliver_logs (part_of c.args.self.now) (target_of c.args.target.now) in
    λ refused. subst (λ (n : ℕ × ℕ). (n.0 ≤ most_records) × (n.1 ≤ most_records)) (λ i. (sym logs.0 i, sym logs.1 i)) c.in_ok-look_to_bring.ensures.room
