use Rattle.std.proofs.Common.{◌∙◌}
use Rattle.command_words.proofs.Numbers.{parsed_count}
use Rattle.command_words.proofs.giving.count_of.Goals as goal

pub returns : goal.returns
returns c = c.ok.ensures.value ∙ parsed_count c.args.text.now c.parse.result c.parse.ensures.value.0
