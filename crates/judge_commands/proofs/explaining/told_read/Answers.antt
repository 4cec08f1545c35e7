use Rattle.std.proofs.Common.{ℕ, Result, subst}
use Rattle.text_lines.specs.Answer.{IsRead}
use Rattle.migration_types.specs.Sessions.{Recorded}
use Rattle.session_log.specs.Grammar.{SpellsSession}
use Rattle.session_answers.specs.Forms.{TellsStory}
use Rattle.judge_commands.proofs.Reported.{refusal_told, report_told}
use Rattle.judge_commands.proofs.explaining.told_read.Goals as goal

pub returns-in-Ok : goal.returns-in-Ok
returns-in-Ok g c = λ text read. report_told (TellsStory (g.L.Lines.tell c.args.lines.now) c.args.story) text c.in-Ok.session c.told.result (subst (λ (r : Result Recorded ℕ). IsRead SpellsSession text r) c.in-Ok.is read) c.told.ensures

pub returns-in-Err : goal.returns-in-Err
returns-in-Err g c = λ text read. refusal_told (TellsStory (g.L.Lines.tell c.args.lines.now) c.args.story) text c.in-Err.line c.told_refused.result (subst (λ (r : Result Recorded ℕ). IsRead SpellsSession text r) c.in-Err.is read) c.told_refused.ensures
