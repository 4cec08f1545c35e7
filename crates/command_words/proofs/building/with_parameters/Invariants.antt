use Rattle.std.proofs.Common.{◌≡◌, false, fold, take}
use Rattle.clap.specs.Words.{app_of}
use Rattle.clap.specs.declared.builder.command.Command.TheViews.{out-Command as fields_of}
use Rattle.command_words.specs.Parameters.{with_parameter}
use Rattle.command_words.proofs.building.with_parameters.Given as goal

abbrev pub invariant-loop-parameter : goal.invariant-loop-parameter
invariant-loop-parameter l = record {
  app : app_of l.whole ≡ fold (with_parameter l.choices) (app_of l.fn.command) (take l.parameter-index l.parameters);
  local : (fields_of l.whole).has_globals ≡ false;
}
