use Rattle.text_lines.proofs.Ends.{large_is, large_fits, large_from}
use Rattle.text_lines.proofs.four.large_in.Goals as goal

pub returns-clause-fits : goal.returns-clause-fits
returns-clause-fits c = large_fits c.args.numbers _ c.requires (large_is c.args.numbers c.requires)

pub returns-clause-large : goal.returns-clause-large
returns-clause-large c = λ i lt none. large_from c.args.numbers _ i c.requires (large_is c.args.numbers c.requires) lt none
