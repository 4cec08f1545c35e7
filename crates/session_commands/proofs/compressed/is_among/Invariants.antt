use Rattle.std.proofs.Common.{map, take}
use Rattle.std.specs.Prelude.{string_bytes}
use Rattle.std.specs.List.{Contains}
use Rattle.session_commands.proofs.compressed.is_among.Given as goal

abbrev pub invariant-loop-other : goal.invariant-loop-other
invariant-loop-other l = Contains (map string_bytes (take l.other-index l.names)) l.name → ⊥
