use Rattle.std.proofs.Common.{◌≡◌, true, false, sym, ◌∙◌}
use Rattle.std.proofs.lemmas.Result.{err_from_is_err_and}
use Rattle.walked_sessions.specs.declared.takers.SourceTaker.{SourceTaker}
use Rattle.walked_sessions.proofs.Meeting.{and_so, of_source, source_none}
use Rattle.walked_sessions.proofs.Refusing.{source_ends, source_fault}
use Rattle.walked_sessions.proofs.walking.walk_source.Goals as goal

pub returns-then-is_at_end-clause-walked : goal.returns-then-is_at_end-clause-walked
returns-then-is_at_end-clause-walked g c =
    let met = g.V.Visitor.Met in
    let messages = c.args.messages.now in
    let first : SourceTaker = record { link = c.of_link.result } in
    let t = c.in_ok-whole.ensures.taken in
    and_so _ _ _ _ _ _ _ t (of_source met messages first c.take_log.new.taker c.args.visitor.now c.take_log.new.onto t.records c.of_link.ensures (t.is first c.args.visitor.now (source_none met first c.args.visitor.now)) (c.is_at_end.ensures.0 c.if-is_at_end.true))

pub returns-else-is_at_end-clause-refused : goal.returns-else-is_at_end-clause-refused
returns-else-is_at_end-clause-refused g c =
    let met = g.V.Visitor.Met in
    let messages = c.args.messages.now in
    let first : SourceTaker = record { link = c.of_link.result } in
    let t = c.in_ok-whole.ensures.taken in
    source_ends met c.args.machine.now (g.F.LogFiles.bytes_of c.args.files.now) messages first c.take_log.new.taker c.args.visitor.now c.take_log.new.onto t.records c.requires c.of_link.ensures t.tell (t.is first c.args.visitor.now (source_none met first c.args.visitor.now)) (λ at. let both : true ≡ false = sym (c.is_at_end.ensures.1 at) ∙ c.if-is_at_end.false in absurd cc)

pub returns-in_err-whole-clause-refused : goal.returns-in_err-whole-clause-refused
returns-in_err-whole-clause-refused g c =
    let messages = c.args.messages.now in
    let first : SourceTaker = record { link = c.of_link.result } in
    let p = err_from_is_err_and c.from_residual.result c.from_residual.ensures.1 in
    rw (p.1, p.2) (source_fault g.V.Visitor.Met c.args.machine.now (g.F.LogFiles.bytes_of c.args.files.now) messages first c.args.visitor.now _ c.requires c.of_link.ensures c.in_err-whole.ensures.refused)
