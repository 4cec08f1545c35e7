use Rattle.guest_script.specs.inner.ScriptDraft.{draft_of}
use Rattle.guest_script.proofs.ScriptSteps.{lane_taken}
use Rattle.guest_script.proofs.script_steps.ScriptParts.at_lane.Goals as goal

pub returns : goal.returns
returns c = let found = c.in_ok-lane.ensures.found in lane_taken (draft_of c.args.self.now) c.in_ok-lane.lane c.args.line.now c.requires found.0 found.1
