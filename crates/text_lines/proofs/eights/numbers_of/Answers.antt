use Rattle.std.proofs.Common.{refl}
use Rattle.text_lines.proofs.EightLaws.{eight}
use Rattle.text_lines.proofs.eights.numbers_of.Goals as goal

pub returns : goal.returns
returns c = rw (eight c.args.bytes c.requires) refl
