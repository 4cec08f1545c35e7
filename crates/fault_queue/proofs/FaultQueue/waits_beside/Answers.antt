use Rattle.std.proofs.Common.{ap, ◌∙◌}
use Rattle.fault_queue.proofs.Others.{others_wait}
use Rattle.fault_queue.specs.Waiting.{is_waiting, without_all}
use Rattle.fault_queue.proofs.FaultQueue.waits_beside.Goals as goal

pub returns : goal.returns
returns c = c.waits_among_others.ensures ∙ others_wait c.args.vcpu c.args.pages.now c.self.inside.waiting.entries ∙ ap (λ es. is_waiting c.args.vcpu (without_all c.args.pages.now es)) c.self.view_is
