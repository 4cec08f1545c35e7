use Rattle.audit_report.specs.ToldLines.{own}
use Rattle.session_answers.specs.Forms.{Tells}
use Rattle.session_answers.specs.Judged.{IsJudgedTold}
use Rattle.session_answers.specs.Lacks.{lack_form}
use Rattle.judge_commands.proofs.Lacking.{held_all}
use Rattle.judge_commands.proofs.auditing.answered.Goals as goal

pub returns : goal.returns
returns g c = λ text read. held_all own (lack_form c.args.ask.form) (IsJudgedTold (Tells c.args.ask.form) text) c.session_texts_are_unambiguous.ensures text c.args.ask.complete c.args.session.now c.in_ok-answer.answer c.held.result read (c.in_ok-answer.ensures text read) (rw c.of_lack.ensures at c.held.ensures)
