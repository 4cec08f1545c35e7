use Rattle.std.proofs.Common.{◌∙◌, sym, ap, get_or, None}
use Rattle.std.proofs.lemmas.List.Sums.{fold_more}
use Rattle.clap.specs.Words.{App, app_of}
use Rattle.command_words.specs.Parameters.{with_parameter}
use Rattle.command_words.proofs.building.with_parameters.Goals as goal

pub loop-parameter-preserved : goal.loop-parameter-preserved
loop-parameter-preserved c = record {
  app =
      c.in_ok-whole.ensures.app
      ∙ ap (λ (app : App). with_parameter c.args.choices app (get_or c.args.parameters.now c.loop-parameter.parameter-index None)) c.loop-parameter.invariant.app
      ∙ sym (fold_more (with_parameter c.args.choices) (app_of c.args.command) c.args.parameters.now c.loop-parameter.parameter-index None c.loop-parameter-test.true);
  local = c.in_ok-whole.ensures.local;
}
