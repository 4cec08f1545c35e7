use Rattle.std.proofs.Common.{◌≡◌}
use Rattle.session_log.proofs.packed.pack.Given as goal

abbrev pub invariant-loop-block : goal.invariant-loop-block
invariant-loop-block l = l.records.items ≡ l.fn.records.items
