use Rattle.std.proofs.Common.{refl}
use Rattle.recordings.specs.Seen.{with_init}
use Rattle.recordings.specs.Wide.{init_of}
use Rattle.recorder_files.specs.Fronts.{cursors_of}
use Rattle.walked_sessions.specs.inner.Made.{draft_of, and_init}
use Rattle.walked_sessions.proofs.Pieces.{any_ok, meets_more, none_of}
use Rattle.walked_sessions.proofs.visiting.TextWriterVisitor.init.Goals as goal

pub returns : goal.returns
returns g c = λ s before met.
    let m = met (none_of c.args.self.now.fault c.if-is_some.ensures) in
    let d = draft_of c.args.self.now.text.now.init (cursors_of g.B.Begun.front) s in
    any_ok c.settle.result (meets_more g.B.Begun.start (g.W.Write.contents c.args.self.now.output.now) (g.W.Write.contents c.settle.new.self.output.now) g.B.Begun.front g.B.Begun.init c.args.self.now.text.now c.push_init-pushed.new.self c.settle.new.self.text.now c.push_init-pushed.result c.settle.new.self.fault s (with_init s (init_of c.args.page)) (and_init d (init_of c.args.page)) (λ before stands. c.push_init-pushed.ensures.stands before d stands) c.push_init-pushed.ensures.same (record { holds = c.settle.ensures.holds; same = c.settle.ensures.same; ok = c.settle.ensures.ok }) refl m)
