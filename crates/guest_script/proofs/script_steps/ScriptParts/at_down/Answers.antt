use Rattle.guest_script.specs.inner.ScriptDraft.{draft_of}
use Rattle.guest_script.proofs.ScriptSteps.{down_taken}
use Rattle.guest_script.proofs.script_steps.ScriptParts.at_down.Goals as goal

pub returns : goal.returns
returns c = let found = c.in_ok-down.ensures.found in down_taken (draft_of c.args.self.now) c.in_ok-down.down c.args.line.now c.requires found.0 found.1
