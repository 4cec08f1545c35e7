use Rattle.std.proofs.Common.{[], ◌∷◌, ◌++◌, subst}
use Rattle.text_lines.specs.Text.{ended}
use Rattle.text_access.specs.Written.{AppendsPart}
use Rattle.session_grammar.specs.Grammar.{closing, counted, guest_key, init_key, link_key, page_line, source_key, with_lane, pager_key}
use Rattle.session_grammar.specs.Records.{guest_line, link_line, pager_line, source_line}
use Rattle.session_log.specs.inner.Rooms.{AreBehind}
use Rattle.session_log.proofs.Rooms.{cut, err_then, goes_on, if_err, ok_then, some_line}
use Rattle.session_log.proofs.Written.{guest_part, init_part, lane_part, link_part, pager_part, session_written, some_start, source_part, start_lines, start_part, to_guest, to_init, to_lane, to_link, to_pager, to_source}
use Rattle.session_log.proofs.writing.Room.lines.Goals as goal

pub returns-in_err-settle-clause-err : goal.returns-in_err-settle-clause-err
returns-in_err-settle-clause-err g c =
    let s = c.args.session.now in
    let pushed = rw c.clear.ensures.items at c.push_machine-pushed.ensures in
    if_err _ (start_part (g.W.Write.contents c.args.output.now) (g.W.Write.contents c.settle.new.output) s (c.in_err-settle.ensures.err [] (ended (start_lines s)) (some_start s) pushed))

pub returns-in_err-list-clause-err : goal.returns-in_err-list-clause-err
returns-in_err-list-clause-err g c =
    let s = c.args.session.now in
    let pushed = rw c.clear.ensures.items at c.push_machine-pushed.ensures in
    let at_start = c.in_ok-settle.ensures.ok [] (ended (start_lines s)) pushed in
    if_err _ (init_part (g.W.Write.contents c.args.output.now) (g.W.Write.contents c.list.new.output) s (cut (g.W.Write.contents c.args.output.now) (g.W.Write.contents c.settle.new.output) (g.W.Write.contents c.list.new.output) c.settle.new.self.bytes.items (ended (start_lines s)) (ended (counted init_key page_line s.init [])) at_start (rw c.init.ensures at c.in_err-list.ensures.err)))

pub returns-in_err-list-2-clause-err : goal.returns-in_err-list-2-clause-err
returns-in_err-list-2-clause-err g c =
    let s = c.args.session.now in
    let pushed = rw c.clear.ensures.items at c.push_machine-pushed.ensures in
    let at_start = c.in_ok-settle.ensures.ok [] (ended (start_lines s)) pushed in
    let at_init = goes_on (g.W.Write.contents c.args.output.now) (g.W.Write.contents c.settle.new.output) (g.W.Write.contents c.list.new.output) c.settle.new.self.bytes.items (ended (start_lines s)) c.list.new.self.bytes.items (ended (counted init_key page_line s.init [])) at_start (rw c.init.ensures at c.in_ok-list.ensures.ok) in
    if_err _ (guest_part (g.W.Write.contents c.args.output.now) (g.W.Write.contents c.list-2.new.output) s (cut (g.W.Write.contents c.args.output.now) (g.W.Write.contents c.list.new.output) (g.W.Write.contents c.list-2.new.output) c.list.new.self.bytes.items (to_init s) (ended (counted guest_key guest_line s.guest [])) at_init (rw c.guest.ensures at c.in_err-list-2.ensures.err)))

pub returns-in_err-list-3-clause-err : goal.returns-in_err-list-3-clause-err
returns-in_err-list-3-clause-err g c =
    let s = c.args.session.now in
    let pushed = rw c.clear.ensures.items at c.push_machine-pushed.ensures in
    let at_start = c.in_ok-settle.ensures.ok [] (ended (start_lines s)) pushed in
    let at_init = goes_on (g.W.Write.contents c.args.output.now) (g.W.Write.contents c.settle.new.output) (g.W.Write.contents c.list.new.output) c.settle.new.self.bytes.items (ended (start_lines s)) c.list.new.self.bytes.items (ended (counted init_key page_line s.init [])) at_start (rw c.init.ensures at c.in_ok-list.ensures.ok) in
    let at_guest = goes_on (g.W.Write.contents c.args.output.now) (g.W.Write.contents c.list.new.output) (g.W.Write.contents c.list-2.new.output) c.list.new.self.bytes.items (to_init s) c.list-2.new.self.bytes.items (ended (counted guest_key guest_line s.guest [])) at_init (rw c.guest.ensures at c.in_ok-list-2.ensures.ok) in
    if_err _ (source_part (g.W.Write.contents c.args.output.now) (g.W.Write.contents c.list-3.new.output) s (cut (g.W.Write.contents c.args.output.now) (g.W.Write.contents c.list-2.new.output) (g.W.Write.contents c.list-3.new.output) c.list-2.new.self.bytes.items (to_guest s) (ended (counted source_key source_line s.source [])) at_guest (rw c.source.ensures at c.in_err-list-3.ensures.err)))

pub returns-in_err-list-4-clause-err : goal.returns-in_err-list-4-clause-err
returns-in_err-list-4-clause-err g c =
    let s = c.args.session.now in
    let pushed = rw c.clear.ensures.items at c.push_machine-pushed.ensures in
    let at_start = c.in_ok-settle.ensures.ok [] (ended (start_lines s)) pushed in
    let at_init = goes_on (g.W.Write.contents c.args.output.now) (g.W.Write.contents c.settle.new.output) (g.W.Write.contents c.list.new.output) c.settle.new.self.bytes.items (ended (start_lines s)) c.list.new.self.bytes.items (ended (counted init_key page_line s.init [])) at_start (rw c.init.ensures at c.in_ok-list.ensures.ok) in
    let at_guest = goes_on (g.W.Write.contents c.args.output.now) (g.W.Write.contents c.list.new.output) (g.W.Write.contents c.list-2.new.output) c.list.new.self.bytes.items (to_init s) c.list-2.new.self.bytes.items (ended (counted guest_key guest_line s.guest [])) at_init (rw c.guest.ensures at c.in_ok-list-2.ensures.ok) in
    let at_source = goes_on (g.W.Write.contents c.args.output.now) (g.W.Write.contents c.list-2.new.output) (g.W.Write.contents c.list-3.new.output) c.list-2.new.self.bytes.items (to_guest s) c.list-3.new.self.bytes.items (ended (counted source_key source_line s.source [])) at_guest (rw c.source.ensures at c.in_ok-list-3.ensures.ok) in
    if_err _ (link_part (g.W.Write.contents c.args.output.now) (g.W.Write.contents c.list-4.new.output) s (cut (g.W.Write.contents c.args.output.now) (g.W.Write.contents c.list-3.new.output) (g.W.Write.contents c.list-4.new.output) c.list-3.new.self.bytes.items (to_source s) (ended (counted link_key link_line s.link [])) at_source (rw c.link.ensures at c.in_err-list-4.ensures.err)))

pub returns-in_err-lane-clause-err : goal.returns-in_err-lane-clause-err
returns-in_err-lane-clause-err g c =
    let s = c.args.session.now in
    let pushed = rw c.clear.ensures.items at c.push_machine-pushed.ensures in
    let at_start = c.in_ok-settle.ensures.ok [] (ended (start_lines s)) pushed in
    let at_init = goes_on (g.W.Write.contents c.args.output.now) (g.W.Write.contents c.settle.new.output) (g.W.Write.contents c.list.new.output) c.settle.new.self.bytes.items (ended (start_lines s)) c.list.new.self.bytes.items (ended (counted init_key page_line s.init [])) at_start (rw c.init.ensures at c.in_ok-list.ensures.ok) in
    let at_guest = goes_on (g.W.Write.contents c.args.output.now) (g.W.Write.contents c.list.new.output) (g.W.Write.contents c.list-2.new.output) c.list.new.self.bytes.items (to_init s) c.list-2.new.self.bytes.items (ended (counted guest_key guest_line s.guest [])) at_init (rw c.guest.ensures at c.in_ok-list-2.ensures.ok) in
    let at_source = goes_on (g.W.Write.contents c.args.output.now) (g.W.Write.contents c.list-2.new.output) (g.W.Write.contents c.list-3.new.output) c.list-2.new.self.bytes.items (to_guest s) c.list-3.new.self.bytes.items (ended (counted source_key source_line s.source [])) at_guest (rw c.source.ensures at c.in_ok-list-3.ensures.ok) in
    let at_link = goes_on (g.W.Write.contents c.args.output.now) (g.W.Write.contents c.list-3.new.output) (g.W.Write.contents c.list-4.new.output) c.list-3.new.self.bytes.items (to_source s) c.list-4.new.self.bytes.items (ended (counted link_key link_line s.link [])) at_source (rw c.link.ensures at c.in_ok-list-4.ensures.ok) in
    if_err _ (lane_part (g.W.Write.contents c.args.output.now) (g.W.Write.contents c.lane.new.output) s (cut (g.W.Write.contents c.args.output.now) (g.W.Write.contents c.list-4.new.output) (g.W.Write.contents c.lane.new.output) c.list-4.new.self.bytes.items (to_link s) (ended (with_lane s.version s.lane [])) at_link c.in_err-lane.ensures.err))

pub returns-in_err-list-5-clause-err : goal.returns-in_err-list-5-clause-err
returns-in_err-list-5-clause-err g c =
    let s = c.args.session.now in
    let pushed = rw c.clear.ensures.items at c.push_machine-pushed.ensures in
    let at_start = c.in_ok-settle.ensures.ok [] (ended (start_lines s)) pushed in
    let at_init = goes_on (g.W.Write.contents c.args.output.now) (g.W.Write.contents c.settle.new.output) (g.W.Write.contents c.list.new.output) c.settle.new.self.bytes.items (ended (start_lines s)) c.list.new.self.bytes.items (ended (counted init_key page_line s.init [])) at_start (rw c.init.ensures at c.in_ok-list.ensures.ok) in
    let at_guest = goes_on (g.W.Write.contents c.args.output.now) (g.W.Write.contents c.list.new.output) (g.W.Write.contents c.list-2.new.output) c.list.new.self.bytes.items (to_init s) c.list-2.new.self.bytes.items (ended (counted guest_key guest_line s.guest [])) at_init (rw c.guest.ensures at c.in_ok-list-2.ensures.ok) in
    let at_source = goes_on (g.W.Write.contents c.args.output.now) (g.W.Write.contents c.list-2.new.output) (g.W.Write.contents c.list-3.new.output) c.list-2.new.self.bytes.items (to_guest s) c.list-3.new.self.bytes.items (ended (counted source_key source_line s.source [])) at_guest (rw c.source.ensures at c.in_ok-list-3.ensures.ok) in
    let at_link = goes_on (g.W.Write.contents c.args.output.now) (g.W.Write.contents c.list-3.new.output) (g.W.Write.contents c.list-4.new.output) c.list-3.new.self.bytes.items (to_source s) c.list-4.new.self.bytes.items (ended (counted link_key link_line s.link [])) at_source (rw c.link.ensures at c.in_ok-list-4.ensures.ok) in
    let at_lane = goes_on (g.W.Write.contents c.args.output.now) (g.W.Write.contents c.list-4.new.output) (g.W.Write.contents c.lane.new.output) c.list-4.new.self.bytes.items (to_link s) c.lane.new.self.bytes.items (ended (with_lane s.version s.lane [])) at_link c.in_ok-lane.ensures.ok in
    if_err _ (pager_part (g.W.Write.contents c.args.output.now) (g.W.Write.contents c.list-5.new.output) s (cut (g.W.Write.contents c.args.output.now) (g.W.Write.contents c.lane.new.output) (g.W.Write.contents c.list-5.new.output) c.lane.new.self.bytes.items (to_lane s) (ended (counted pager_key pager_line s.pager [])) at_lane (rw c.pager.ensures at c.in_err-list-5.ensures.err)))

pub returns-clause-ok : goal.returns-clause-ok
returns-clause-ok g c =
    let s = c.args.session.now in
    let pushed = rw c.clear.ensures.items at c.push_machine-pushed.ensures in
    let at_start = c.in_ok-settle.ensures.ok [] (ended (start_lines s)) pushed in
    let at_init = goes_on (g.W.Write.contents c.args.output.now) (g.W.Write.contents c.settle.new.output) (g.W.Write.contents c.list.new.output) c.settle.new.self.bytes.items (ended (start_lines s)) c.list.new.self.bytes.items (ended (counted init_key page_line s.init [])) at_start (rw c.init.ensures at c.in_ok-list.ensures.ok) in
    let at_guest = goes_on (g.W.Write.contents c.args.output.now) (g.W.Write.contents c.list.new.output) (g.W.Write.contents c.list-2.new.output) c.list.new.self.bytes.items (to_init s) c.list-2.new.self.bytes.items (ended (counted guest_key guest_line s.guest [])) at_init (rw c.guest.ensures at c.in_ok-list-2.ensures.ok) in
    let at_source = goes_on (g.W.Write.contents c.args.output.now) (g.W.Write.contents c.list-2.new.output) (g.W.Write.contents c.list-3.new.output) c.list-2.new.self.bytes.items (to_guest s) c.list-3.new.self.bytes.items (ended (counted source_key source_line s.source [])) at_guest (rw c.source.ensures at c.in_ok-list-3.ensures.ok) in
    let at_link = goes_on (g.W.Write.contents c.args.output.now) (g.W.Write.contents c.list-3.new.output) (g.W.Write.contents c.list-4.new.output) c.list-3.new.self.bytes.items (to_source s) c.list-4.new.self.bytes.items (ended (counted link_key link_line s.link [])) at_source (rw c.link.ensures at c.in_ok-list-4.ensures.ok) in
    let at_lane = goes_on (g.W.Write.contents c.args.output.now) (g.W.Write.contents c.list-4.new.output) (g.W.Write.contents c.lane.new.output) c.list-4.new.self.bytes.items (to_link s) c.lane.new.self.bytes.items (ended (with_lane s.version s.lane [])) at_link c.in_ok-lane.ensures.ok in
    let at_pager = goes_on (g.W.Write.contents c.args.output.now) (g.W.Write.contents c.lane.new.output) (g.W.Write.contents c.list-5.new.output) c.lane.new.self.bytes.items (to_lane s) c.list-5.new.self.bytes.items (ended (counted pager_key pager_line s.pager [])) at_lane (rw c.pager.ensures at c.in_ok-list-5.ensures.ok) in
    ok_then _ (c.settle-2.ensures.ok c.list-5.new.self.bytes.items (closing ++ 10 ∷ []) c.push_line-pushed.ensures)
    (λ more. subst (AreBehind (g.W.Write.contents c.args.output.now) (g.W.Write.contents c.settle-2.new.output) c.settle-2.new.self.bytes.items) (session_written s) (goes_on (g.W.Write.contents c.args.output.now) (g.W.Write.contents c.list-5.new.output) (g.W.Write.contents c.settle-2.new.output) c.list-5.new.self.bytes.items (to_pager s) c.settle-2.new.self.bytes.items (closing ++ 10 ∷ []) at_pager more))

pub returns-clause-err : goal.returns-clause-err
returns-clause-err g c =
    let s = c.args.session.now in
    let pushed = rw c.clear.ensures.items at c.push_machine-pushed.ensures in
    let at_start = c.in_ok-settle.ensures.ok [] (ended (start_lines s)) pushed in
    let at_init = goes_on (g.W.Write.contents c.args.output.now) (g.W.Write.contents c.settle.new.output) (g.W.Write.contents c.list.new.output) c.settle.new.self.bytes.items (ended (start_lines s)) c.list.new.self.bytes.items (ended (counted init_key page_line s.init [])) at_start (rw c.init.ensures at c.in_ok-list.ensures.ok) in
    let at_guest = goes_on (g.W.Write.contents c.args.output.now) (g.W.Write.contents c.list.new.output) (g.W.Write.contents c.list-2.new.output) c.list.new.self.bytes.items (to_init s) c.list-2.new.self.bytes.items (ended (counted guest_key guest_line s.guest [])) at_init (rw c.guest.ensures at c.in_ok-list-2.ensures.ok) in
    let at_source = goes_on (g.W.Write.contents c.args.output.now) (g.W.Write.contents c.list-2.new.output) (g.W.Write.contents c.list-3.new.output) c.list-2.new.self.bytes.items (to_guest s) c.list-3.new.self.bytes.items (ended (counted source_key source_line s.source [])) at_guest (rw c.source.ensures at c.in_ok-list-3.ensures.ok) in
    let at_link = goes_on (g.W.Write.contents c.args.output.now) (g.W.Write.contents c.list-3.new.output) (g.W.Write.contents c.list-4.new.output) c.list-3.new.self.bytes.items (to_source s) c.list-4.new.self.bytes.items (ended (counted link_key link_line s.link [])) at_source (rw c.link.ensures at c.in_ok-list-4.ensures.ok) in
    let at_lane = goes_on (g.W.Write.contents c.args.output.now) (g.W.Write.contents c.list-4.new.output) (g.W.Write.contents c.lane.new.output) c.list-4.new.self.bytes.items (to_link s) c.lane.new.self.bytes.items (ended (with_lane s.version s.lane [])) at_link c.in_ok-lane.ensures.ok in
    let at_pager = goes_on (g.W.Write.contents c.args.output.now) (g.W.Write.contents c.lane.new.output) (g.W.Write.contents c.list-5.new.output) c.lane.new.self.bytes.items (to_lane s) c.list-5.new.self.bytes.items (ended (counted pager_key pager_line s.pager [])) at_lane (rw c.pager.ensures at c.in_ok-list-5.ensures.ok) in
    err_then _ (c.settle-2.ensures.err c.list-5.new.self.bytes.items (closing ++ 10 ∷ []) (some_line closing) c.push_line-pushed.ensures)
    (λ part. subst (AppendsPart (g.W.Write.contents c.args.output.now) (g.W.Write.contents c.settle-2.new.output)) (session_written s) (cut (g.W.Write.contents c.args.output.now) (g.W.Write.contents c.list-5.new.output) (g.W.Write.contents c.settle-2.new.output) c.list-5.new.self.bytes.items (to_pager s) (closing ++ 10 ∷ []) at_pager part))
