use Rattle.std.proofs.Common.{ℕ, Result, subst}
use Rattle.text_lines.specs.Answer.{IsRead}
use Rattle.migration_types.specs.Sessions.{Recorded}
use Rattle.session_log.specs.Grammar.{SpellsSession}
use Rattle.session_answers.specs.Forms.{Tells}
use Rattle.judge_commands.proofs.Reported.{refusal_told, report_told}
use Rattle.judge_commands.proofs.auditing.audit_read.Goals as goal

pub returns-in-Ok : goal.returns-in-Ok
returns-in-Ok g c = λ text read. report_told (Tells c.args.form) text c.in-Ok.session c.reported.result (subst (λ (r : Result Recorded ℕ). IsRead SpellsSession text r) c.in-Ok.is read) c.reported.ensures

pub returns-in-Err : goal.returns-in-Err
returns-in-Err g c = λ text read. refusal_told (Tells c.args.form) text c.in-Err.line c.refused.result (subst (λ (r : Result Recorded ℕ). IsRead SpellsSession text r) c.in-Err.is read) c.refused.ensures
