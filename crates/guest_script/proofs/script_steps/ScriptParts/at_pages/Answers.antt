use Rattle.guest_script.specs.inner.ScriptDraft.{draft_of}
use Rattle.guest_script.proofs.ScriptSteps.{pages_taken}
use Rattle.guest_script.proofs.script_steps.ScriptParts.at_pages.Goals as goal

pub returns : goal.returns
returns c = let found = c.in_ok-pages.ensures.found in pages_taken (draft_of c.args.self.now) c.in_ok-pages.pages c.args.line.now c.requires found.0 found.1 found.2
