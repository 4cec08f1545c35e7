use Rattle.std.proofs.Common.{◌<◌, subst}
use Rattle.migration_types.specs.Sessions.{HasLog}
use Rattle.recordings.specs.Seen.{with_record}
use Rattle.recordings.specs.Wide.{log_of}
use Rattle.recorder_files.specs.Fronts.{cursors_of}
use Rattle.walked_sessions.specs.inner.Made.{and_record, draft_of}
use Rattle.walked_sessions.proofs.Fronts.{above, has_log, has_no_log, in_front, more_record, past_record}
use Rattle.walked_sessions.proofs.Pieces.{any_ok, meets_more, meets_past, none_of, some_of}
use Rattle.walked_sessions.proofs.visiting.TextWriterVisitor.record.Goals as goal
use Rattle.walked_sessions.proofs.visiting.TextWriterVisitor.record.Goals.{then-is_some-via-then-is_some, then-is_some-via-else-is_some+then-number-of, then-is_some-via-else-is_some+else-number-of+then-not-is_in}

pub returns-then-is_some : goal.returns-then-is_some
returns-then-is_some g c = λ s next met none.
    let m = met none in
    let t = c.args.self.now.text.now in
    let log = log_of c.args.rec in
    let beyond : HasLog s.version log → c.args.number < cursors_of g.B.Begun.front log → ⊥ = elim c.then-is_some.branch [
      | then-is_some-via-then-is_some w ↦ λ has lt. some_of c.args.self.now.fault w.if-is_some.ensures none
      | then-is_some-via-else-is_some+then-number-of w ↦ λ has lt. above w.of.result (cursors_of g.B.Begun.front log) c.args.number (in_front t.front g.B.Begun.front w.log.result log w.of.result w.of.ensures w.log.ensures m.front) w.if-number-of.true lt
      | then-is_some-via-else-is_some+else-number-of+then-not-is_in w ↦ λ has lt. has_no_log s.version t.version w.log-else-number-of.result log w.is_in.result m.holds.stands.counts.version w.log-else-number-of.ensures w.is_in.ensures w.if-not-is_in.true has
    ] in
    meets_past g.B.Begun.start (g.W.Write.contents c.args.self.now.output.now) g.B.Begun.front g.B.Begun.init t s (with_record s c.args.rec) (past_record t.init (cursors_of g.B.Begun.front) s c.args.number c.args.rec next beyond) m

pub returns : goal.returns
returns g c = λ s next met.
    let m = met (none_of c.args.self.now.fault c.if-is_some.ensures) in
    let t = c.args.self.now.text.now in
    let log = log_of c.args.rec in
    let d = draft_of t.init (cursors_of g.B.Begun.front) s in
    let has = has_log s.version t.version c.log-else-number-of.result log c.is_in.result m.holds.stands.counts.version c.log-else-number-of.ensures c.is_in.ensures c.if-not-is_in.false in
    let at = in_front t.front g.B.Begun.front c.log.result log c.of.result c.of.ensures c.log.ensures m.front in
    let lt : c.args.number < cursors_of g.B.Begun.front log = subst (λ n. c.args.number < n) at c.if-number-of.false in
    any_ok c.settle.result (meets_more g.B.Begun.start (g.W.Write.contents c.args.self.now.output.now) (g.W.Write.contents c.settle.new.self.output.now) g.B.Begun.front g.B.Begun.init t c.push-pushed.new.self c.settle.new.self.text.now c.push-pushed.result c.settle.new.self.fault s (with_record s c.args.rec) (and_record d c.args.rec) (λ before stands. c.push-pushed.ensures.stands before d stands) c.push-pushed.ensures.same (record { holds = c.settle.ensures.holds; same = c.settle.ensures.same; ok = c.settle.ensures.ok }) (more_record t.init (cursors_of g.B.Begun.front) s c.args.number c.args.rec next has lt) m)
