use Rattle.std.proofs.Common.{subst}
use Rattle.command_texts.specs.inner.Ends.{IsLacking}
use Rattle.command_texts.proofs.Cuts.{lacking_by, lacks_nothing}
use Rattle.command_texts.proofs.cutting.lacking_after.Goals as goal

pub returns-in-Some : goal.returns-in-Some
returns-in-Some c = λ start lacks. lacking_by start c.args.rest.now c.in-Some.lacking.now c.after_key.result c.after_key.ensures (subst (IsLacking start) c.in-Some.is lacks)

pub returns-in-None : goal.returns-in-None
returns-in-None c = λ start lacks. lacks_nothing start c.args.rest.now (subst (IsLacking start) c.in-None.is lacks)
