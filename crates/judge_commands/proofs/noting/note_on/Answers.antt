use Rattle.std.proofs.Common.{ℕ, Result, subst}
use Rattle.text_lines.specs.Answer.{IsRead}
use Rattle.migration_types.specs.Sessions.{Recorded}
use Rattle.session_log.specs.Grammar.{SpellsSession}
use Rattle.judge_commands.proofs.Noted.{all_noted, none_beside}
use Rattle.judge_commands.proofs.noting.note_on.Goals as goal

pub returns-then-answer-eq-ACCEPTED-clause-well : goal.returns-then-answer-eq-ACCEPTED-clause-well
returns-then-answer-eq-ACCEPTED-clause-well c = λ text read well.
    all_noted c.args.complete text c.session_texts_are_unambiguous.ensures c.in-Ok.session (subst (λ (r : Result Recorded ℕ). IsRead SpellsSession text r) c.in-Ok.is read) c.note_of.result c.note_of.ensures

pub returns-in-Err-clause-well : goal.returns-in-Err-clause-well
returns-in-Err-clause-well c = λ text read well none words.
    none_beside c.args.complete text c.in-Err.field-0 (subst (λ (r : Result Recorded ℕ). IsRead SpellsSession text r) c.in-Err.is read) words
