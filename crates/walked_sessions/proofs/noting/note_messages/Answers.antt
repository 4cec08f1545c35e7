use Rattle.std.proofs.Common.{[], inl, inr, refl}
use Rattle.std.proofs.lemmas.Result.{err_from_is_err_and}
use Rattle.recorder_files.specs.Told.{Tells}
use Rattle.walked_sessions.specs.Faults.{IsNoteFault}
use Rattle.walked_sessions.proofs.Refusing.{any_fault}
use Rattle.walked_sessions.proofs.noting.note_messages.Goals as goal

pub returns-in-Ok-clause-noted : goal.returns-in-Ok-clause-noted
returns-in-Ok-clause-noted g c =
    let p = c.in_ok-take_log.ensures.taken in
    let s = c.in_ok-take_log-2.ensures.taken in
    let one : Tells c.take_log.new.onto p.records [] = p.is (record {}) c.new-told.result (λ source tells. tells) [] c.new-told.ensures in
    let two : Tells c.take_log-2.new.onto p.records s.records = s.is (record {}) c.take_log.new.onto (λ pager tells. tells) p.records one in
    record { pager = p.records; source = s.records; tell_pager = p.tell; tell_source = s.tell; has = c.in-Ok.ensures.told p.records s.records two }

pub returns-in_err-take_log-clause-refused : goal.returns-in_err-take_log-clause-refused
returns-in_err-take_log-clause-refused g c =
    let p = err_from_is_err_and c.from_residual.result c.from_residual.ensures.1 in
    rw (p.1, p.2) (any_fault _ _ _ _ (g.F.LogFiles.bytes_of c.args.files.now) (record {}) c.new-told.result _ (IsNoteFault c.args.machine.now (g.F.LogFiles.bytes_of c.args.files.now)) (λ why has. (inl refl, has)) tt _ c.in_err-take_log.ensures.refused)

pub returns-in_err-take_log-2-clause-refused : goal.returns-in_err-take_log-2-clause-refused
returns-in_err-take_log-2-clause-refused g c =
    let p = err_from_is_err_and c.from_residual-in_err-take_log-2.result c.from_residual-in_err-take_log-2.ensures.1 in
    rw (p.1, p.2) (any_fault _ _ _ _ (g.F.LogFiles.bytes_of c.args.files.now) _ c.take_log.new.onto _ (IsNoteFault c.args.machine.now (g.F.LogFiles.bytes_of c.args.files.now)) (λ why has. (inr refl, has)) tt _ c.in_err-take_log-2.ensures.refused)
