use Rattle.std.proofs.Common.{◌≡◌}
use Rattle.session_log.proofs.packed.pack_block.Given as goal

abbrev pub invariant-loop-n : goal.invariant-loop-n
invariant-loop-n l = l.records.items ≡ l.fn.records.items
