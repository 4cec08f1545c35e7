use Rattle.std.proofs.Common.{refl, ap, ◌∙◌, ◌≡◌}
use Rattle.migration_types.specs.PageSets.{no_page}
use Rattle.target_side.specs.Kept.{marked}
use Rattle.target_side.proofs.Parts.{none_marked}
use Rattle.target_side.proofs.state.TargetState.halted.Goals as goal

pub returns-clause-part : goal.returns-clause-part
returns-clause-part c =
    let e = c.in-Ok.ensures in
    let marks : marked c.in-Ok.standing.items ≡ no_page = ap marked e.marks ∙ none_marked 256 in
    rw (c.push_reserved.ensures.items, c.make_room.ensures.items, e.memory, e.placed, e.freed, e.frontier, marks, c.new.ensures.items, c.in-Ok-with_capacity.ensures.items) refl
