use Rattle.text_lines.proofs.EightLaws.{decimal_is}
use Rattle.text_lines.proofs.eights.decimal_of.Goals as goal

pub returns : goal.returns
returns c = λ ds le all is. decimal_is ds c.args.word le all is
