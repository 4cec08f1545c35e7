use Rattle.std.proofs.Common.{refl}
use Rattle.text_lines.proofs.Lanes.{sixteen}
use Rattle.text_lines.proofs.four.numbers_in.Goals as goal

pub returns : goal.returns
returns c = rw (sixteen c.args.bytes c.requires) refl
