use Rattle.std.proofs.Common.{take}
use Rattle.target_side.specs.Guests.{part_of}
use Rattle.host_threads.specs.Operations.{HasDone}
use Rattle.host_threads.proofs.vcpu.work_at_source.Given as goal

abbrev pub invariant-loop-at : goal.invariant-loop-at
invariant-loop-at l = HasDone l.vcpu (take l.at l.ops) (part_of l.fn.book) (part_of l.book) l.fn.answers.items l.answers.items
