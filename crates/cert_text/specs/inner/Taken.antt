-- Entries taken in a row.
use Rattle.std.specs.Prelude.{Bool, true, false, ◌≡◌, ℕ, List, [], ◌∷◌, ◌++◌, length}
use Rattle.std.specs.List.{AllByRecursion}
use Rattle.text_lines.specs.Text.{ended}
use Rattle.migration_types.specs.declared.cert.Entry.{Entry}
use Rattle.migration_types.specs.declared.version.Version.{Version}
use Rattle.migration_types.specs.declared.size.Size.{Size}
use Rattle.migration_types.specs.Certs.{EntryFits}
use Rattle.cert_text.specs.Grammar.{entry_line, entry_lines}

-- This many entries of this version and size, those of the next pages, were read at the front of the bytes, and
-- appended to the old ones.
pub record TakesEntries (version : Version) (size : Size) (old new : List Entry) (bytes rest : List ℕ) (count : ℕ) : Type 0 where
  pub taken : List Entry
  pub items : new ≡ old ++ taken
  pub parts : bytes ≡ ended (entry_lines (length old) taken) ++ rest
  pub counted : length taken ≡ count
  pub fits : AllByRecursion (EntryFits version size) taken

-- an entry of the next page that fits and has this line was appended to the old ones
pub record TakesEntry (version : Version) (size : Size) (old new : List Entry) (line : List ℕ) : Type 0 where
  pub entry : Entry
  pub grown : new ≡ old ++ entry ∷ []
  pub fits : EntryFits version size entry
  pub spelled : line ≡ entry_line (length old) entry

-- entries without their last, or none
abbrev pub LosesLast : List Entry → List Entry → Bool → Type 0
LosesLast old new true = (entry : Entry) × (old ≡ new ++ entry ∷ [])
LosesLast old new false = (old ≡ []) × (new ≡ [])
