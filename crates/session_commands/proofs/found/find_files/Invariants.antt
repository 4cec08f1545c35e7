use Rattle.std.proofs.Common.{map, take}
use Rattle.std.specs.Prelude.{string_bytes}
use Rattle.text_access.specs.Names.{names_of}
use Rattle.session_commands.specs.Found.{AreCompressed, AreFound}
use Rattle.session_commands.proofs.found.find_files.Given as goal

abbrev pub invariant-loop-place : goal.invariant-loop-place
invariant-loop-place g l = AreFound (g.S.TextSource.names_in l.texts) (names_of (take l.place l.folders)) l.files.items × AreCompressed (g.S.TextSource.names_in l.texts) (names_of (take l.place l.folders)) (map string_bytes l.compressed.items)
