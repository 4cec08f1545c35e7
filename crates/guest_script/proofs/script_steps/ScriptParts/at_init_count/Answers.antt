use Rattle.std.proofs.Common.{ap}
use Rattle.std.proofs.lemmas.Result.{err_from_is_err_and}
use Rattle.guest_script.specs.inner.ScriptDraft.{draft_of}
use Rattle.guest_script.proofs.ScriptSteps.{init_count_taken, init_count_refused}
use Rattle.guest_script.proofs.script_steps.ScriptParts.at_init_count.Goals as goal

pub returns-in_err-announce : goal.returns-in_err-announce
returns-in_err-announce c = let p = err_from_is_err_and c.from_residual.result c.from_residual.ensures.1 in rw (p.1, p.2) (
  ap (λ (x : _). record (draft_of c.args.self.now) { init = x }) c.in_err-announce.ensures.err,
  λ other. init_count_refused (draft_of c.args.self.now) c.args.line.now c.in_err-announce.ensures.refused,
)

pub returns : goal.returns
returns c = let found = c.in_ok-announce.ensures.found in init_count_taken (draft_of c.args.self.now) c.announce.new.self c.args.line.now c.requires found.0 found.1 found.2
