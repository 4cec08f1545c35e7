use Rattle.guest_script.specs.inner.ScriptDraft.{draft_of}
use Rattle.guest_script.proofs.ScriptSteps.{cells_taken}
use Rattle.guest_script.proofs.script_steps.ScriptParts.at_cells.Goals as goal

pub returns : goal.returns
returns c = let found = c.in_ok-cells.ensures.found in cells_taken (draft_of c.args.self.now) c.in_ok-cells.cells c.args.line.now c.requires found.0 found.1
