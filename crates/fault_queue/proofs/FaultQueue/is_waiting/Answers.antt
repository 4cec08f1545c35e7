use Rattle.std.proofs.Common.{ap, ◌∙◌}
use Rattle.fault_queue.proofs.Maps.{waiting_entries}
use Rattle.fault_queue.specs.Waiting.{is_waiting}
use Rattle.fault_queue.proofs.FaultQueue.is_waiting.Goals as goal

pub returns : goal.returns
returns c = c.waits.ensures ∙ waiting_entries c.args.vcpu c.self.inside.waiting.entries ∙ ap (is_waiting c.args.vcpu) c.self.view_is
