use Rattle.text_lines.proofs.EightLaws.{front_word_is}
use Rattle.text_lines.proofs.eights.front_word.Goals as goal

pub returns : goal.returns
returns c = front_word_is c.args.bytes c.args.count c.from_le_bytes.result c.requires.long c.requires.each c.requires.count c.from_le_bytes.ensures
