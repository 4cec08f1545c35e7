use Rattle.std.proofs.Common.{◌≡◌, drop}
use Rattle.migration_types.specs.Memory.{initial}
use Rattle.plain_audit.proofs.flat.initial_value.Given as goal

abbrev pub invariant-loop-given : goal.invariant-loop-given
invariant-loop-given l = initial l.init l.page l.cell ≡ initial (drop l.given-index l.init) l.page l.cell
