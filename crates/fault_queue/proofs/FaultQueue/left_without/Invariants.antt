use Rattle.std.proofs.Common.{◌≡◌, take}
use Rattle.fault_queue.specs.Waiting.{without_all}
use Rattle.fault_queue.proofs.FaultQueue.left_without.Given as goal

abbrev pub invariant-loop-page : goal.invariant-loop-page
invariant-loop-page l = l.left ≡ without_all (take l.page-index l.pages) l.self
