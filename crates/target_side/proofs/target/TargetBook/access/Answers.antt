use Rattle.std.proofs.Common.{ap, ◌∙◌, subst}
use Rattle.target_side.specs.Kept.{Kept, geometry_of, part_held, HaveGrown}
use Rattle.target_side.specs.inner.States.{held}
use Rattle.target_side.specs.inner.Woven.{woven}
use Rattle.target_side.proofs.Parts.{sized_own}
use Rattle.target_side.proofs.TargetKeeping.{Keeps}
use Rattle.target_side.proofs.Targets.{grown, have_grown, accessed, on_ok}
use Rattle.target_side.proofs.target.TargetBook.access.Goals as goal

keeps : (c : goal.After-access) → Keeps (part_held (held c.self.inside.state)) (part_held (held c.access.new.self))
keeps c =
    accessed c.args.vcpu c.args.op (held c.self.inside.state) (held c.access.new.self) c.access.result c.access.ensures.ok c.access.ensures.err

pub invariant_of-self : goal.invariant_of-self
invariant_of-self c =
    let i = c.self.inside in
    let sized = c.access.ensures.sized i.state.frames.geometry c.self.invariant.sized in
    grown (held i.state) (held c.access.new.self) i.placements.items c.self.invariant (sized_own i.state.frames.geometry (held c.access.new.self) sized) (keeps c)

pub returns-clause-geometry : goal.returns-clause-geometry
returns-clause-geometry c =
    let sized = c.access.ensures.sized c.self.inside.state.frames.geometry c.self.invariant.sized in
    sized.frames ∙ ap geometry_of c.self.view_is

pub returns-clause-history : goal.returns-clause-history
returns-clause-history c =
    let i = c.self.inside in
    let new : Kept = record { held = held c.access.new.self; history = woven 0 c.access.new.self.log.items i.placements.items } in
    on_ok c.access.result (subst (λ (k : Kept). HaveGrown k new) c.self.view_is (have_grown (held i.state) (held c.access.new.self) i.placements.items c.self.invariant (keeps c)))
