use Rattle.std.proofs.Common.{◌∙◌, sym}
use Rattle.recordings.specs.Wide.{source_of}
use Rattle.session_commands.proofs.Seen.{halted_first, halted_later}
use Rattle.session_commands.proofs.facts.with_halted.Goals as goal

pub returns-then-number-eq0 : goal.returns-then-number-eq0
returns-then-number-eq0 c = λ source at begins. c.is_halted.ensures ∙ sym (halted_first source (source_of c.args.rec.now) (at ∙ c.if-number-eq0.true))

pub returns-else-number-eq0 : goal.returns-else-number-eq0
returns-else-number-eq0 c = λ source at begins. begins ∙ sym (halted_later source (source_of c.args.rec.now) (λ none. c.if-number-eq0.false (sym at ∙ none)))
