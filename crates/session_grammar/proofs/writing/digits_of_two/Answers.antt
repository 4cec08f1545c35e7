use Rattle.session_grammar.proofs.Digits.{cells_written}
use Rattle.session_grammar.proofs.writing.digits_of_two.Goals as goal

pub returns : goal.returns
returns c = cells_written c.args.first c.args.second c.ranges.first.fits c.ranges.second.fits
