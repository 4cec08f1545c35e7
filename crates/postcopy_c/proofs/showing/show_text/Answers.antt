use Rattle.audit_model.specs.World.{IsSafe}
use Rattle.judged_texts.specs.declared.auditing.TextAudit.{TextAudit}
use Rattle.judged_texts.specs.Checked.{SpellsOneSession, OfSpelled}
use Rattle.judged_texts.specs.Audited.{HasReport, FindsClean, FindsFault, IsSafeExactlyIf, IsUnsafe}
use Rattle.judged_texts.proofs.Read.{one_session_of, safe_of_text, exactly_of_text, faulty_of_text, of_refused}
use Rattle.postcopy_c.proofs.Shown.{audits, of_audits, refusal_shown, showing_of, to_audits}
use Rattle.postcopy_c.proofs.showing.show_text.Goals as goal

pub returns-in-Ok-clause-showing : goal.returns-in-Ok-clause-showing
returns-in-Ok-clause-showing c = showing_of c.args.asked.now c.args.session.now c.in-Ok.recorded c.show_session.result c.in-Ok.ensures c.show_session.ensures.shown

pub returns-in-Ok-clause-one_session : goal.returns-in-Ok-clause-one_session
returns-in-Ok-clause-one_session c =
    let text = c.args.session.now in
    of_audits (λ (a : TextAudit). HasReport a → SpellsOneSession text) c.show_session.result
    (one_session_of text c.in-Ok.recorded (audits c.show_session.result) c.session_texts_are_unambiguous.ensures c.in-Ok.ensures)

pub returns-in-Ok-clause-safe : goal.returns-in-Ok-clause-safe
returns-in-Ok-clause-safe c =
    let text = c.args.session.now in
    let s = c.in-Ok.recorded in
    of_audits (λ (a : TextAudit). FindsClean a → OfSpelled text IsSafe) c.show_session.result
    (safe_of_text text s (audits c.show_session.result) c.session_texts_are_unambiguous.ensures c.in-Ok.ensures
    (to_audits (λ (a : TextAudit). FindsClean a → IsSafe s) c.show_session.result c.show_session.ensures.safe))

pub returns-in-Ok-clause-exactly : goal.returns-in-Ok-clause-exactly
returns-in-Ok-clause-exactly c =
    let text = c.args.session.now in
    let s = c.in-Ok.recorded in
    of_audits (λ (a : TextAudit). OfSpelled text (IsSafeExactlyIf (FindsClean a))) c.show_session.result
    (exactly_of_text text s (audits c.show_session.result) c.session_texts_are_unambiguous.ensures c.in-Ok.ensures
    (to_audits (λ (a : TextAudit). IsSafeExactlyIf (FindsClean a) s) c.show_session.result c.show_session.ensures.exactly))

pub returns-in-Ok-clause-faulty : goal.returns-in-Ok-clause-faulty
returns-in-Ok-clause-faulty c =
    let text = c.args.session.now in
    let s = c.in-Ok.recorded in
    of_audits (λ (a : TextAudit). FindsFault a → OfSpelled text IsUnsafe) c.show_session.result
    (faulty_of_text text s (audits c.show_session.result) c.session_texts_are_unambiguous.ensures c.in-Ok.ensures
    (to_audits (λ (a : TextAudit). FindsFault a → IsUnsafe s) c.show_session.result c.show_session.ensures.faulty))

pub returns-in_ok-texts-in-Err-clause-showing : goal.returns-in_ok-texts-in-Err-clause-showing
returns-in_ok-texts-in-Err-clause-showing c =
    refusal_shown c.args.asked.now c.args.session.now c.in-Err.fault.line c.in_ok-line-in-Err.line c.in-Err.fault.kind c.in_ok-texts-in-Err.texts c.in-Err.ensures c.in_ok-line-in-Err.ensures c.in_ok-texts-in-Err.ensures.shown c.in_ok-texts-in-Err.ensures.measured

pub returns-in_ok-texts-in-Err-clause-exactly : goal.returns-in_ok-texts-in-Err-clause-exactly
returns-in_ok-texts-in-Err-clause-exactly c =
    of_refused c.args.session.now c.in-Err.fault.line c.in-Err.fault.kind (IsSafeExactlyIf ⊥) c.in-Err.ensures c.in_ok-line-in-Err.ensures.1
