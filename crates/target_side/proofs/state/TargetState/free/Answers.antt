use Rattle.std.proofs.Common.{refl, ◌∙◌}
use Rattle.target_side.proofs.Parts.{unsettled_more}
use Rattle.target_side.proofs.state.TargetState.free.Goals as goal

pub returns-clause-sized : goal.returns-clause-sized
returns-clause-sized c = λ e sized.
    let s = c.args.self.now in
    c.act.ensures.sized e (record {
      few = rw c.make_room.ensures.items sized.few;
      frames = sized.frames;
      places = c.release.ensures.geometry ∙ sized.places;
      marks = sized.marks;
      misses = sized.misses;
      unsettled = unsettled_more e s.frames.geometry c.args.op.now s.unsettled.items c.push_reserved.new.self.items c.page-page.result sized.frames c.requires.fits c.page-page.ensures (rw (c.push_reserved.ensures.items, c.reserve.ensures.items) refl) sized.unsettled;
    })
