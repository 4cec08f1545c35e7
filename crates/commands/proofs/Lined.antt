-- The table of a window's lines.
use Rattle.std.proofs.Common.{◌≡◌, ℕ, true, false, List, Option, Some, None, Result, Ok, MatchOption, option_map, refl}
use Rattle.std.specs.Prelude.{is_some}
use Rattle.std.specs.Borrow.{Bor}
use Rattle.std.specs.Global.{Vec}
use Rattle.clap.specs.Words.{Text}
use Rattle.command_texts.specs.declared.answer.Fault.{Fault}
use Rattle.command_words.specs.declared.requests.Request.TheVariants.{Window}
use Rattle.command_words.specs.declared.requests.Pages.{Pages}
use Rattle.text_access.specs.Names.{Files}
use Rattle.session_commands.specs.Windows.{HasWindowLines}
use Rattle.commands.specs.Told.{HasLines, window_of}

pub window_lines : (pages : Pages) (name : Text) (file : Option (Bor Text)) (files : Files) (HasSession : List ℕ → List ℕ → Type 0) (input old new : Option (List ℕ)) (before after : Option (Vec ℕ)) (done : Result ℕ Fault) → (is_some file ≡ true → done ≡ Ok 0 → MatchOption after ⊥ (λ table. HasWindowLines (window_of pages) name files HasSession input old new table.items)) → (is_some file ≡ false → after ≡ before) → done ≡ Ok 0 → HasLines (Window pages name (option_map (λ n. n.now) file)) files HasSession input old new before after
window_lines pages name None files HasSession input old new before after done lined unlined well = unlined refl
window_lines pages name (Some n) files HasSession input old new before after done lined unlined well = lined refl well
