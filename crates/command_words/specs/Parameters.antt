-- The words and the options of a command, one by one.
use Rattle.std.specs.Prelude.{Option, Some, None, codes}
use Rattle.clap.specs.Words.{App, Rule, Text, new_rule, with_rule}
use Rattle.command_words.specs.declared.building.Choices.{Choices}
use Rattle.command_words.specs.declared.parameters.Parameter.{Parameter}
use Rattle.command_words.specs.declared.parameters.Parameter.TheVariants as parameter
use Rattle.command_words.specs.declared.requests.Format.TheVariants as format
use Rattle.command_words.specs.Table.{carrier_name, format_name}
use Rattle.command_words.specs.Words.{choice_rule, count_rule, flag_rule, needed, number_rule, output_rule, repeated}

-- an option, and one that names a file
abbrev pub option_rule : Text → Rule
option_rule option = record (new_rule option) { long = Some option }

abbrev pub file_rule : Text → Rule
file_rule option = record (option_rule option) { value_names = 1 }

-- a word or an option; `choices` has the parsers of the values of options
abbrev pub parameter_rule : Choices → Parameter → Rule
parameter_rule choices (parameter.Text word) = needed word.name.now
parameter_rule choices (parameter.Texts word) = repeated word.name.now
parameter_rule choices (parameter.Count word) = count_rule word.name.now
parameter_rule choices (parameter.Further word) = new_rule word.name.now
parameter_rule choices (parameter.Flag option) = flag_rule option.name.now
parameter_rule choices (parameter.Number option) = number_rule option.name.now
parameter_rule choices parameter.Lines = file_rule (codes "lines")
parameter_rule choices parameter.Output = output_rule
parameter_rule choices (parameter.Link carrier) = choice_rule (codes "link") choices.carriers (carrier_name carrier)
parameter_rule choices parameter.Format = choice_rule (codes "format") choices.formats (format_name format.Text)

-- a command with one more of them, if there is one
abbrev pub with_parameter : Choices → App → Option Parameter → App
with_parameter choices app None = app
with_parameter choices app (Some p) = with_rule app (parameter_rule choices p)
