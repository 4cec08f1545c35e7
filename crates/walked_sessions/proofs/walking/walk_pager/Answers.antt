use Rattle.std.proofs.Common.{◌≡◌, true, false, refl, sym, ◌∙◌}
use Rattle.std.proofs.lemmas.Result.{err_from_is_err_and}
use Rattle.walked_sessions.specs.declared.takers.PagerTaker.{PagerTaker}
use Rattle.walked_sessions.proofs.Meeting.{and_so, of_pager, pager_none}
use Rattle.walked_sessions.proofs.Refusing.{pager_ends, pager_fault}
use Rattle.walked_sessions.proofs.walking.walk_pager.Goals as goal

pub returns-then-are_passed-clause-walked : goal.returns-then-are_passed-clause-walked
returns-then-are_passed-clause-walked g c =
    let met = g.V.Visitor.Met in
    let messages = c.args.messages.now in
    let first : PagerTaker = record { link = c.of_link.result; lane = c.of_lane.result; count = 0 } in
    let t = c.in_ok-whole.ensures.taken in
    and_so _ _ _ _ _ _ _ t (of_pager met messages first c.take_log.new.taker c.args.visitor.now c.take_log.new.onto t.records c.of_link.ensures c.of_lane.ensures (t.is first c.args.visitor.now (pager_none met first c.args.visitor.now refl)) (c.are_passed.ensures.0 c.if-are_passed.true))

pub returns-else-are_passed-clause-refused : goal.returns-else-are_passed-clause-refused
returns-else-are_passed-clause-refused g c =
    let met = g.V.Visitor.Met in
    let messages = c.args.messages.now in
    let first : PagerTaker = record { link = c.of_link.result; lane = c.of_lane.result; count = 0 } in
    let t = c.in_ok-whole.ensures.taken in
    pager_ends met c.args.machine.now (g.F.LogFiles.bytes_of c.args.files.now) messages first c.take_log.new.taker c.args.visitor.now c.take_log.new.onto t.records c.requires c.of_link.ensures c.of_lane.ensures t.tell (t.is first c.args.visitor.now (pager_none met first c.args.visitor.now refl)) (λ all. let both : true ≡ false = sym (c.are_passed.ensures.1 all) ∙ c.if-are_passed.false in absurd cc)

pub returns-in_err-whole-clause-refused : goal.returns-in_err-whole-clause-refused
returns-in_err-whole-clause-refused g c =
    let messages = c.args.messages.now in
    let first : PagerTaker = record { link = c.of_link.result; lane = c.of_lane.result; count = 0 } in
    let p = err_from_is_err_and c.from_residual.result c.from_residual.ensures.1 in
    rw (p.1, p.2) (pager_fault g.V.Visitor.Met c.args.machine.now (g.F.LogFiles.bytes_of c.args.files.now) messages first c.args.visitor.now _ c.requires refl c.of_link.ensures c.of_lane.ensures c.in_err-whole.ensures.refused)
