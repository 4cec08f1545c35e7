use Rattle.guest_script.specs.inner.ScriptDraft.{draft_of}
use Rattle.guest_script.proofs.ScriptVcpus.{count_taken}
use Rattle.guest_script.proofs.script_steps.ScriptParts.at_count.Goals as goal

pub returns : goal.returns
returns c = let found = c.in_ok-count.ensures.found in rw c.new.ensures.items (count_taken (draft_of c.args.self.now) c.in_ok-count.count c.args.line.now c.requires found.0 found.1 found.2)
