use Rattle.postcopy_c.proofs.Clean.{report_by_number, exactly_by_number, faulty_by_number}
use Rattle.postcopy_c.proofs.telling.tell_audit.Goals as goal

pub returns-in-Ok-told-clause-one_session : goal.returns-in-Ok-told-clause-one_session
returns-in-Ok-told-clause-one_session c = λ other _.
    c.in-Ok.ensures.one_session (report_by_number c.in-Ok.audited _ c.in-Ok-told.answer c.in-Ok-told.ensures.told.are_numbers other)

pub returns-in-Ok-told-clause-exactly : goal.returns-in-Ok-told-clause-exactly
returns-in-Ok-told-clause-exactly c = λ some.
    exactly_by_number c.args.session.now c.in-Ok.audited _ c.in-Ok-told.answer c.in-Ok-told.ensures.told.are_numbers c.in-Ok.ensures.exactly

pub returns-in-Ok-told-clause-faulty : goal.returns-in-Ok-told-clause-faulty
returns-in-Ok-told-clause-faulty c = λ kind.
    c.in-Ok.ensures.faulty (faulty_by_number c.in-Ok.audited _ c.in-Ok-told.answer c.in-Ok-told.ensures.told.are_numbers kind)
