use Rattle.guest_script.specs.inner.ScriptDraft.{draft_of}
use Rattle.guest_script.proofs.ScriptSteps.{window_taken}
use Rattle.guest_script.proofs.script_steps.ScriptParts.at_window.Goals as goal

pub returns : goal.returns
returns c = let found = c.in_ok-window.ensures.found in window_taken (draft_of c.args.self.now) c.in_ok-window.window c.args.line.now c.requires found.0 found.1 found.2
