use Rattle.std.proofs.Common.{map, take}
use Rattle.std.specs.Prelude.{string_bytes}
use Rattle.std.specs.List.{Contains}
use Rattle.session_commands.specs.inner.Finding.{AddsNames}
use Rattle.session_commands.proofs.found.push_named.Given as goal

abbrev pub invariant-loop-name : goal.invariant-loop-name
invariant-loop-name l = AddsNames (Contains (map string_bytes (take l.name-index l.names))) l.folder l.fn.files.items l.files.items
