use Rattle.std.proofs.Common.{arith}
use Rattle.std.proofs.lemmas.List.{length-map}
use Rattle.fault_queue.proofs.Maps.{entries, entry_of}
use Rattle.fault_queue.proofs.Queues.{few}
use Rattle.fault_queue.proofs.FaultQueue.pages.Goals as goal

pub overflow_cast-result : goal.overflow_cast-result
overflow_cast-result c =
    let es = c.self.inside.waiting.entries in
    omega (arith, few (entries es) c.self.invariant, length-map es entry_of, c.len.ensures.len)
