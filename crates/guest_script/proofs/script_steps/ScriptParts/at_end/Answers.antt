use Rattle.std.proofs.Common.{refl}
use Rattle.guest_script.specs.inner.ScriptDraft.{draft_of}
use Rattle.guest_script.proofs.ScriptVcpus.{end_taken}
use Rattle.guest_script.proofs.script_steps.ScriptParts.at_end.Goals as goal

pub returns : goal.returns
returns c = end_taken (draft_of c.args.self.now) (draft_of c.end_vcpu.new.self) c.args.line.now c.in_ok-end_vcpu.ensures.ok c.requires.live c.requires.whole c.requires.last (c.if-not-is_line.ensures.0 refl)
