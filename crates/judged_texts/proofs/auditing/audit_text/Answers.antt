use Rattle.judged_texts.specs.Audited.{IsSafeExactlyIf}
use Rattle.judged_texts.proofs.Read.{audited_of, one_session_of, safe_of_text, exactly_of_text, faulty_of_text, of_refused}
use Rattle.judged_texts.proofs.auditing.audit_text.Goals as goal

pub returns-in-Ok-clause-audited : goal.returns-in-Ok-clause-audited
returns-in-Ok-clause-audited c = audited_of c.args.session.now c.in-Ok.recorded c.reported.result c.in-Ok.ensures c.reported.ensures.report

pub returns-in-Ok-clause-one_session : goal.returns-in-Ok-clause-one_session
returns-in-Ok-clause-one_session c = one_session_of c.args.session.now c.in-Ok.recorded c.reported.result c.session_texts_are_unambiguous.ensures c.in-Ok.ensures

pub returns-in-Ok-clause-safe : goal.returns-in-Ok-clause-safe
returns-in-Ok-clause-safe c = safe_of_text c.args.session.now c.in-Ok.recorded c.reported.result c.session_texts_are_unambiguous.ensures c.in-Ok.ensures c.reported.ensures.safe

pub returns-in-Ok-clause-exactly : goal.returns-in-Ok-clause-exactly
returns-in-Ok-clause-exactly c = exactly_of_text c.args.session.now c.in-Ok.recorded c.reported.result c.session_texts_are_unambiguous.ensures c.in-Ok.ensures c.reported.ensures.exactly

pub returns-in-Ok-clause-faulty : goal.returns-in-Ok-clause-faulty
returns-in-Ok-clause-faulty c = faulty_of_text c.args.session.now c.in-Ok.recorded c.reported.result c.session_texts_are_unambiguous.ensures c.in-Ok.ensures c.reported.ensures.faulty

pub returns-in_ok-refused_line-in-Err-clause-exactly : goal.returns-in_ok-refused_line-in-Err-clause-exactly
returns-in_ok-refused_line-in-Err-clause-exactly c =
    of_refused c.args.session.now c.in-Err.fault.line c.in-Err.fault.kind (IsSafeExactlyIf ⊥) c.in-Err.ensures c.in_ok-refused_line-in-Err.ensures.1
