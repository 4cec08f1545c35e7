use Rattle.std.proofs.Common.{rules, true, false, ap, ◌∙◌, sym, arith}
use Rattle.residency.specs.Placements.{presence, number_of}
use Rattle.target_side.specs.Kept.{part_held}
use Rattle.target_side.specs.inner.States.{held}
use Rattle.target_side.proofs.Parts.{placed_cover, seen_length, unseen_length}
use Rattle.target_side.proofs.state.TargetState.perform.Goals.{then-covers+in_ok-make_room, else-covers+in_ok-make_room-2}
use Rattle.target_side.proofs.state.TargetState.perform.Goals as goal

pub returns-in_err-make_room-clause-full : goal.returns-in_err-make_room-clause-full
returns-in_err-make_room-clause-full c =
    let s = c.args.self.now in
    let covers = c.covers.ensures in
    let test = c.if-covers.true in
    let page = c.page.ensures in
    let placed = c.requires.placed in
    let seen = placed_cover (presence s.places c.page.result) c.args.number s.places.frontier true (ap (λ p. number_of (presence s.places p)) page ∙ placed) (sym test ∙ covers) in
    rw (seen_length c.args.vcpu c.args.op.now c.args.number (part_held (held s)) seen) (search rules)

pub returns-in_err-make_room-clause-memory : goal.returns-in_err-make_room-clause-memory
returns-in_err-make_room-clause-memory c =
    let s = c.args.self.now in
    let covers = c.covers.ensures in
    let test = c.if-covers.true in
    let page = c.page.ensures in
    let placed = c.requires.placed in
    let seen = placed_cover (presence s.places c.page.result) c.args.number s.places.frontier true (ap (λ p. number_of (presence s.places p)) page ∙ placed) (sym test ∙ covers) in
    rw (seen_length c.args.vcpu c.args.op.now c.args.number (part_held (held s)) seen) (search rules)

pub returns-in_err-make_room-2-clause-full : goal.returns-in_err-make_room-2-clause-full
returns-in_err-make_room-2-clause-full c =
    let s = c.args.self.now in
    let covers = c.covers.ensures in
    let test = c.if-covers.false in
    let page = c.page.ensures in
    let placed = c.requires.placed in
    let unseen = placed_cover (presence s.places c.page.result) c.args.number s.places.frontier false (ap (λ p. number_of (presence s.places p)) page ∙ placed) (sym test ∙ covers) in
    rw (unseen_length c.args.vcpu c.args.op.now c.args.number (part_held (held s)) unseen) (search rules)

pub returns-in_err-make_room-2-clause-memory : goal.returns-in_err-make_room-2-clause-memory
returns-in_err-make_room-2-clause-memory c =
    let s = c.args.self.now in
    let covers = c.covers.ensures in
    let test = c.if-covers.false in
    let page = c.page.ensures in
    let placed = c.requires.placed in
    let unseen = placed_cover (presence s.places c.page.result) c.args.number s.places.frontier false (ap (λ p. number_of (presence s.places p)) page ∙ placed) (sym test ∙ covers) in
    rw (unseen_length c.args.vcpu c.args.op.now c.args.number (part_held (held s)) unseen) (search rules)

pub returns-clause-sized : goal.returns-clause-sized
returns-clause-sized c = elim c.if-covers.branch [
  | then-covers+in_ok-make_room w ↦ λ e sized. c.act.ensures.sized e (rw (w.self-is, w.make_room.ensures.items) sized)
  | else-covers+in_ok-make_room-2 w ↦ λ e sized.
      let few = w.in_ok-make_room-2.ensures.fits in
      let items = w.make_room-else-covers.ensures.items in
      c.act.ensures.sized e (rw w.self-is (w.look.ensures.sized e (rw items (omega arith)) (rw items sized)))
]
