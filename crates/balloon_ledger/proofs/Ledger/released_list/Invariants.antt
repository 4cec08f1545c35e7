use Rattle.std.proofs.Common.{◌≡◌}
use Rattle.balloon_ledger.specs.Released.{released, pages_below}
use Rattle.balloon_ledger.proofs.Ledger.released_list.Given as goal

abbrev pub invariant-loop-number : goal.invariant-loop-number
invariant-loop-number l = l.list.items ≡ pages_below l.number (released l.self)
