use Rattle.std.proofs.Common.{subst}
use Rattle.std.specs.Prelude.{IsTrue}
use Rattle.command_texts.specs.inner.Ends.{IsLacking}
use Rattle.command_texts.proofs.Cuts.{completed}
use Rattle.command_texts.proofs.cutting.completes.Goals as goal

pub returns-in-Some : goal.returns-in-Some
returns-in-Some c = λ start lacks. completed start c.args.rest.now c.in-Some.lacking.now (IsTrue c.is_line.result) c.is_line.ensures (subst (IsLacking start) c.in-Some.is lacks)
