use Rattle.std.proofs.Common.{map, take}
use Rattle.std.specs.Prelude.{string_bytes}
use Rattle.std.specs.List.{Contains}
use Rattle.session_commands.specs.inner.Compressing.{AddsCompressed}
use Rattle.session_commands.proofs.compressed.push_compressed.Given as goal

abbrev pub invariant-loop-name : goal.invariant-loop-name
invariant-loop-name l = AddsCompressed (map string_bytes l.names) (Contains (map string_bytes (take l.name-index l.names))) l.folder (map string_bytes l.fn.paths.items) (map string_bytes l.paths.items)
