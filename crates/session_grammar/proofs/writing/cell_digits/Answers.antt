use Rattle.std.proofs.Common.{refl}
use Rattle.hex.specs.Hex.{encode_with}
use Rattle.session_grammar.proofs.writing.cell_digits.Goals as goal

pub returns : goal.returns
unfolding encode_with
returns c = rw c.digits_of_two.ensures refl
