use Rattle.audit_report.specs.ToldLines.{own}
use Rattle.judge_commands.specs.Answers.{IsVerdictTold, verdict_lack, verdict_text}
use Rattle.judge_commands.proofs.Lacking.{held_where}
use Rattle.judge_commands.proofs.Told.{answers}
use Rattle.judge_commands.proofs.checking.checked.Goals as goal

pub returns-clause-told : goal.returns-clause-told
returns-clause-told g c = λ first second session cert. held_where own (verdict_lack c.args.form) (IsVerdictTold (verdict_text c.args.form) (first, second)) c.session_texts_are_unambiguous.ensures first c.args.complete c.args.session.now c.in_ok-answer.answer c.in_ok-whole.whole session
    (answers (verdict_text c.args.form) (first, second) c.in_ok-answer.answer c.in_ok-answer.verdict (c.in_ok-answer.ensures.right first second session cert) c.in_ok-answer.ensures.told)
    (rw c.lack_beside.ensures at c.in_ok-whole.ensures)
