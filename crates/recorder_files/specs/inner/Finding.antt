-- A buffer with bytes of a file, and the next line in it.
use Rattle.std.specs.Prelude.{◌≡◌, ℕ, suc, ◌+◌, ◌≤◌, ◌⊎◌, List, [], ◌∷◌, ◌++◌, length, slice_range, Option, Some, None, IfSome, take}
use Rattle.std.specs.List.{AllByRecursion}
use Rattle.std.specs.Io.KnownBytes.{Consumes, IsAtEnd}
use Rattle.text_lines.specs.Text.{ended}
use Rattle.recorder_files.specs.Said.{longest_line, IsInside, IsWritten, HasLines}
use Rattle.recorder_files.specs.declared.files.FileFault.{FileFault}
use Rattle.recorder_files.specs.declared.files.FileFault.TheVariants.{Line as FaultLine, Order, File, Memory}
use Rattle.recorder_files.specs.declared.pieces.Cut.{Cut}
use Rattle.recorder_files.specs.declared.pieces.NextLine.{NextLine}
use Rattle.recorder_files.specs.declared.pieces.NextLine.TheVariants.{Line, End, Long}

-- bytes were read after those at the front of a buffer; there is none only if nothing is left
pub record ReadsBehind (old new : Option (List ℕ)) (before after : List ℕ) (kept filled : ℕ) : Type 0 where
  pub bytes : List ℕ
  pub front : take filled after ≡ take kept before ++ bytes
  pub consumed : Consumes old new bytes
  pub within : filled ≤ length after
  pub more : kept ≤ filled
  pub at_end : filled ≡ kept → IsAtEnd new

-- nothing is left, or a byte 0 comes first
abbrev pub StopsAt : Option (List ℕ) → List ℕ → Type 0
StopsAt rest [] = IsAtEnd rest
StopsAt rest (b ∷ more) = b ≡ 0

-- what these bytes begin with, if this is left after them: a line of this length, the end of what was written, or a
-- line that is too long
abbrev pub Finds : Option (List ℕ) → List ℕ → NextLine → Type 0
Finds rest bytes (Line n) = (line : List ℕ) × (after : List ℕ) × (bytes ≡ line ++ 10 ∷ after) × IsWritten line × (length line ≡ n)
Finds rest bytes End = (line : List ℕ) × (more : List ℕ) × (bytes ≡ line ++ more) × IsWritten line × StopsAt rest more
Finds rest bytes Long = (line : List ℕ) × (more : List ℕ) × (bytes ≡ line ++ more) × AllByRecursion IsInside line × (suc longest_line ≤ length line)

-- the bytes in the buffer and those left in the reader are the same as before, whatever came before them
abbrev pub SameBytes : Option (List ℕ) → List ℕ → Option (List ℕ) → List ℕ → Type 0
SameBytes old before new after = (known : Option (List ℕ)) (front : List ℕ) → Consumes known old (front ++ before) → Consumes known new (front ++ after)

-- these lines were read, and these bytes of the buffer are left
pub record AreRead (known rest : Option (List ℕ)) (bytes : List ℕ) (lines : List (List ℕ)) : Type 0 where
  pub written : AllByRecursion IsWritten lines
  pub consumed : Consumes known rest (ended lines ++ bytes)

-- these are all lines of a file
pub record AreAll (known : Option (List ℕ)) (lines : List (List ℕ)) : Type 0 where
  pub bytes : List ℕ
  pub is_known : IfSome known (λ xs. bytes ≡ xs)
  pub whole : HasLines bytes lines

-- a line was taken after these lines, or these are all
abbrev pub Takes : Option (List ℕ) → Option (List ℕ) → List ℕ → List (List ℕ) → Option Cut → Type 0
Takes known rest buffer lines None = AreAll known lines
Takes known rest buffer lines (Some cut) = AreRead known rest (slice_range buffer (cut.end + 1) cut.held) (lines ++ slice_range buffer cut.start cut.end ∷ [])

-- a line that is too long follows these lines
pub record IsLong (known : Option (List ℕ)) (lines : List (List ℕ)) : Type 0 where
  pub line : List ℕ
  pub after : List ℕ
  pub is_known : IfSome known (λ xs. ended lines ++ (line ++ after) ≡ xs)
  pub written : AllByRecursion IsWritten lines
  pub inside : AllByRecursion IsInside line
  pub long : suc longest_line ≤ length line

abbrev pub IsLongAt : Option (List ℕ) → List (List ℕ) → ℕ → FileFault → Type 0
IsLongAt known lines number (FaultLine at) = (at ≡ number) × IsLong known lines
IsLongAt known lines number (Order at) = ⊥
IsLongAt known lines number File = Unit {0}
IsLongAt known lines number Memory = Unit {0}

-- something follows these lines, although the file must end after them
abbrev pub IsMoreAt : Option (List ℕ) → List (List ℕ) → ℕ → FileFault → Type 0
IsMoreAt known lines number (FaultLine at) = (at ≡ number) × (IsLong known lines ⊎ ((rest : Option (List ℕ)) × (bytes : List ℕ) × (line : List ℕ) × AreRead known rest bytes (lines ++ line ∷ [])))
IsMoreAt known lines number (Order at) = ⊥
IsMoreAt known lines number File = Unit {0}
IsMoreAt known lines number Memory = Unit {0}

-- the fault of a read, which is at no line
abbrev pub IsReadFault : FileFault → Type 0
IsReadFault (FaultLine at) = ⊥
IsReadFault (Order at) = ⊥
IsReadFault File = Unit {0}
IsReadFault Memory = Unit {0}
