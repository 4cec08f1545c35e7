use Rattle.std.proofs.Common.{ap, ◌∙◌, subst}
use Rattle.target_side.specs.Kept.{Kept, geometry_of, part_held, HaveGrown}
use Rattle.target_side.specs.inner.States.{held}
use Rattle.target_side.specs.inner.Woven.{woven}
use Rattle.target_side.proofs.Parts.{sized_own}
use Rattle.target_side.proofs.TargetKeeping.{Keeps}
use Rattle.target_side.proofs.Targets.{grown, have_grown, resumed, on_ok}
use Rattle.target_side.proofs.target.TargetBook.resume.Goals as goal

keeps : (c : goal.After-resume) → Keeps (part_held (held c.self.inside.state)) (part_held (held c.resume.new.self))
keeps c = resumed (held c.self.inside.state) (held c.resume.new.self) c.resume.result c.resume.ensures.part c.resume.ensures.err

pub invariant_of-self : goal.invariant_of-self
invariant_of-self c =
    let i = c.self.inside in
    let sized = c.resume.ensures.sized i.state.frames.geometry c.self.invariant.sized in
    grown (held i.state) (held c.resume.new.self) i.placements.items c.self.invariant (sized_own i.state.frames.geometry (held c.resume.new.self) sized) (keeps c)

pub returns-clause-geometry : goal.returns-clause-geometry
returns-clause-geometry c =
    let sized = c.resume.ensures.sized c.self.inside.state.frames.geometry c.self.invariant.sized in
    sized.frames ∙ ap geometry_of c.self.view_is

pub returns-clause-history : goal.returns-clause-history
returns-clause-history c =
    let i = c.self.inside in
    let new : Kept = record { held = held c.resume.new.self; history = woven 0 c.resume.new.self.log.items i.placements.items } in
    on_ok c.resume.result (subst (λ (k : Kept). HaveGrown k new) c.self.view_is (have_grown (held i.state) (held c.resume.new.self) i.placements.items c.self.invariant (keeps c)))
