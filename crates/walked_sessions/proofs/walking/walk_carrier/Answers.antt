use Rattle.std.proofs.Common.{inl, inr, subst}
use Rattle.std.proofs.lemmas.Result.{err_from_is_err_and}
use Rattle.walked_sessions.specs.declared.takers.CarrierTaker.{CarrierTaker}
use Rattle.walked_sessions.specs.inner.Meeting.{with_records}
use Rattle.walked_sessions.proofs.Meeting.{and_so, carrier_none}
use Rattle.walked_sessions.proofs.Refusing.{own_fault}
use Rattle.walked_sessions.proofs.walking.walk_carrier.Goals as goal

pub returns-else-is_told-clause-walked : goal.returns-else-is_told-clause-walked
returns-else-is_told-clause-walked g c =
    let first : CarrierTaker = record { is_told = c.are_some-is_told.result } in
    let t = c.in_ok-whole.ensures.taken in
    let meets = t.is first c.args.visitor.now (carrier_none g.V.Visitor.Met g.K.CarrierRecord.wide first c.args.visitor.now) in
    and_so _ _ _ _ _ _ _ t (record { either = inr (c.are_some-is_told.ensures.0 c.if-is_told.false, meets.met) })

pub returns-in_ok-walk_deliveries-clause-walked : goal.returns-in_ok-walk_deliveries-clause-walked
returns-in_ok-walk_deliveries-clause-walked g c =
    let first : CarrierTaker = record { is_told = c.are_some-is_told.result } in
    let t = c.in_ok-whole.ensures.taken in
    let meets = t.is first c.args.visitor.now (carrier_none g.V.Visitor.Met g.K.CarrierRecord.wide first c.args.visitor.now) in
    let none = meets.none c.if-is_told.true in
    and_so _ _ _ _ _ _ _ t (record { either = inl (none, λ d may delivers start. c.in_ok-walk_deliveries.ensures d delivers (subst (λ rs. g.V.Visitor.Met c.take_log.new.onto (with_records g.K.CarrierRecord.wide d rs)) none (meets.met d may start))) })

pub returns-in_err-whole-clause-refused : goal.returns-in_err-whole-clause-refused
returns-in_err-whole-clause-refused g c =
    let first : CarrierTaker = record { is_told = c.are_some-is_told.result } in
    let p = err_from_is_err_and c.from_residual.result c.from_residual.ensures.1 in
    rw (p.1, p.2) (own_fault g.V.Visitor.Met g.K.CarrierRecord.wide g.K.LogRecord.line (g.K.LogRecord.IsOf c.args.machine.now) c.args.log (g.F.LogFiles.bytes_of c.args.files.now) c.args.messages.now first c.args.visitor.now c.own_log-unfit.result _ c.are_some-is_told.ensures.1 c.own_log-unfit.ensures c.in_err-whole.ensures.refused)
