use Rattle.std.proofs.Common.{ℕ, List, [], map, sym, subst}
use Rattle.std.specs.Prelude.{string_bytes}
use Rattle.std.specs.Borrow.{Bor}
use Rattle.session_commands.specs.declared.found.FoundFile.{FoundFile}
use Rattle.session_commands.specs.Found.{AreFound}
use Rattle.session_commands.proofs.Compressing.{all_in, compressed_in_none, next_in}
use Rattle.session_commands.proofs.Finding.{all_found, found_none, next_found}
use Rattle.session_commands.proofs.found.find_files.Goals as goal

-- what stands in a folder's place past the last one
abbrev no_folder : Bor (List ℕ)
no_folder = record { ref_ptr = (0, 0); now = [] }

pub loop-place-init : goal.loop-place-init
loop-place-init g c = (subst (λ (files : List FoundFile). AreFound (g.S.TextSource.names_in c.args.texts.now) [] files) (sym c.new-files.ensures.items) (found_none (g.S.TextSource.names_in c.args.texts.now)), rw c.new-compressed.ensures.items (compressed_in_none (g.S.TextSource.names_in c.args.texts.now)))

pub loop-place-preserved : goal.loop-place-preserved
loop-place-preserved g c = (
  next_found (λ folder. folder.now) (g.S.TextSource.names_in c.args.texts.now) c.args.folders.now c.loop-place.place no_folder c.loop-place.files.items c.push_files.new.files.items c.loop-place-test.true c.loop-place.invariant.0 c.in_ok-push_files.ensures.files,
  next_in (λ folder. folder.now) (g.S.TextSource.names_in c.args.texts.now) c.args.folders.now c.loop-place.place no_folder (map string_bytes c.loop-place.compressed.items) (map string_bytes c.push_files.new.compressed.items) c.loop-place-test.true c.loop-place.invariant.1 c.in_ok-push_files.ensures.compressed,
)

pub returns-clause-files : goal.returns-clause-files
returns-clause-files g c = all_found (λ folder. folder.now) (g.S.TextSource.names_in c.args.texts.now) c.args.folders.now c.loop-place.place c.loop-place.files.items c.loop-place-test.false c.loop-place.invariant.0

pub returns-clause-compressed : goal.returns-clause-compressed
returns-clause-compressed g c = all_in (λ folder. folder.now) (g.S.TextSource.names_in c.args.texts.now) c.args.folders.now c.loop-place.place _ c.loop-place-test.false c.loop-place.invariant.1
