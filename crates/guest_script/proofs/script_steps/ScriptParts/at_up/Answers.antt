use Rattle.guest_script.specs.inner.ScriptDraft.{draft_of}
use Rattle.guest_script.proofs.ScriptSteps.{first_up_taken, second_up_taken}
use Rattle.guest_script.proofs.script_steps.ScriptParts.at_up.Goals as goal

pub returns-in-One : goal.returns-in-One
returns-in-One c = let found = c.in_ok-up.ensures.found in first_up_taken (draft_of c.args.self.now) c.in_ok-up.up c.args.line.now c.requires c.in-One.is found.0 found.1

pub returns-in-Two : goal.returns-in-Two
returns-in-Two c = let found = c.in_ok-up.ensures.found in second_up_taken (draft_of c.args.self.now) c.in_ok-up.up c.args.line.now c.requires c.in-Two.is found.0 found.1
