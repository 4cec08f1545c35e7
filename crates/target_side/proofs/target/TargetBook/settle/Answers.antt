use Rattle.std.proofs.Common.{ap, ◌∙◌}
use Rattle.target_side.specs.Kept.{Kept, geometry_of, part_of}
use Rattle.target_side.specs.TargetPart.{settled}
use Rattle.target_side.specs.inner.States.{held}
use Rattle.target_side.specs.inner.Woven.{woven}
use Rattle.target_side.proofs.Parts.{sized_own}
use Rattle.target_side.proofs.Targets.{settle_book}
use Rattle.target_side.proofs.target.TargetBook.settle.Goals as goal

pub invariant_of-self : goal.invariant_of-self
invariant_of-self c =
    let i = c.self.inside in
    let new = held c.settle.new.self in
    settle_book (held i.state) new i.placements.items c.self.invariant (sized_own i.state.frames.geometry new (c.settle.ensures.sized i.state.frames.geometry c.self.invariant.sized)) c.settle.ensures.part

pub returns-clause-geometry : goal.returns-clause-geometry
returns-clause-geometry c = (c.settle.ensures.sized c.self.inside.state.frames.geometry c.self.invariant.sized).frames ∙ ap geometry_of c.self.view_is

pub returns-clause-history : goal.returns-clause-history
returns-clause-history c = ap (λ v. woven 0 v.items c.self.inside.placements.items) c.settle.ensures.log ∙ ap (λ (k : Kept). k.history) c.self.view_is

pub returns-clause-part : goal.returns-clause-part
returns-clause-part c = c.settle.ensures.part ∙ ap (λ (k : Kept). settled (part_of k)) c.self.view_is
