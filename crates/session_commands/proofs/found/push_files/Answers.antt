use Rattle.std.specs.Prelude.{string_bytes}
use Rattle.std.proofs.lemmas.List.Sorted.{IsPermutation-map}
use Rattle.session_commands.proofs.Compressing.{compressed_of}
use Rattle.session_commands.proofs.Finding.{adds_folder}
use Rattle.session_commands.proofs.found.push_files.Goals as goal

pub returns-clause-files : goal.returns-clause-files
returns-clause-files g c = adds_folder _ c.args.folder.now _ _ c.args.files.now.items c.push_named.new.files.items c.in-Ok.ensures.names (IsPermutation-map string_bytes _ _ c.sort.ensures.permutation) (rw c.as_slice.ensures.value at c.in_ok-push_named.ensures)

pub returns-clause-compressed : goal.returns-clause-compressed
returns-clause-compressed g c = compressed_of _ c.args.folder.now _ _ _ _ c.in-Ok.ensures.names (IsPermutation-map string_bytes _ _ c.sort.ensures.permutation) (rw c.as_slice-2.ensures.value at c.in_ok-push_compressed.ensures)
