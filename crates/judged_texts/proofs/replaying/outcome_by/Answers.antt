use Rattle.std.proofs.Common.{subst}
use Rattle.text_lines.specs.Answer.{IsRead}
use Rattle.session_log.specs.Grammar.{SpellsSession}
use Rattle.judged_texts.proofs.Outcomes.{outcome_of}
use Rattle.judged_texts.proofs.replaying.outcome_by.Goals as goal

pub returns-in-Ok : goal.returns-in-Ok
returns-in-Ok g c = λ first second session runs.
    outcome_of first second c.in-Ok.session c.along_read.result (subst (IsRead SpellsSession first) c.in-Ok.is session) (c.along_read.ensures second runs)
