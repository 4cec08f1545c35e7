-- What the bytes of a party's file say.
use Rattle.std.specs.Prelude.{◌≡◌, ◌≢◌, ℕ, suc, ◌+◌, ◌≤◌, List, [], ◌∷◌, ◌++◌, length, Option, Some, None, IfSome}
use Rattle.std.specs.List.{AllByRecursion}
use Rattle.std.specs.Io.KnownBytes.{Consumes}
use Rattle.text_lines.specs.Text.{ended, IsLine}
use Rattle.recorder_files.specs.declared.lines.Party.{Party}
use Rattle.recorder_files.specs.declared.lines.Opening.{Opening}
use Rattle.recorder_files.specs.declared.lines.Last.{Last}
use Rattle.recorder_files.specs.declared.lines.Last.TheVariants.{End, Next, Lost}
use Rattle.recorder_files.specs.declared.files.FileFault.{FileFault}
use Rattle.recorder_files.specs.declared.files.FileFault.TheVariants.{Line, Order, File, Memory}
use Rattle.recorder_files.specs.Files.{last_number, header, recording_line, opening_line, record_line, last_line, IsName, IsLast}
use Rattle.recorder_files.specs.Gathered.{Numbered}

-- ---- lines that were written

-- the most bytes of a line
abbrev pub longest_line : ℕ
longest_line = 8459

-- neither a line feed nor a byte 0
abbrev pub IsInside : ℕ → Type 0
IsInside b = (b ≢ 10) × (b ≢ 0)

-- a line that can be written
pub record IsWritten (line : List ℕ) : Type 0 where
  pub inside : AllByRecursion IsInside line
  pub short : length line ≤ longest_line

-- the end, or a byte 0
abbrev pub Stops : List ℕ → Type 0
Stops [] = Unit {0}
Stops (b ∷ more) = b ≡ 0

-- What follows the last line: at most one line that was not written to its end, up to the end of the file or a byte 0.
pub record IsUnwritten (bytes : List ℕ) : Type 0 where
  pub line : List ℕ
  pub more : List ℕ
  pub parts : bytes ≡ line ++ more
  pub written : IsWritten line
  pub stops : Stops more

-- these lines were written, and no others
pub record HasLines (bytes : List ℕ) (lines : List (List ℕ)) : Type 0 where
  pub rest : List ℕ
  pub parts : bytes ≡ ended lines ++ rest
  pub written : AllByRecursion IsWritten lines
  pub unwritten : IsUnwritten rest

-- ---- what they say

-- what a file with a head says: its records with their numbers, and how its process left the log, if the file says that
pub record Said : Type 0 where
  pub name : List ℕ
  pub opening : Opening
  pub records : Numbered (List ℕ)
  pub last : Option Last

-- the numbers rise, from the first one on, and the next record may have this number or a greater one
abbrev pub RiseTo : ℕ → Numbered (List ℕ) → ℕ → Type 0
RiseTo low [] next = next ≡ low
RiseTo low (r ∷ records) next = (low ≤ r.0) × (r.0 ≤ last_number) × RiseTo (suc r.0) records next

-- the count is above the numbers of all records in the file
abbrev pub IsBehind : ℕ → Last → Type 0
IsBehind next (End count) = next ≤ count
IsBehind next (Next count) = next ≤ count
IsBehind next (Lost errno) = Unit {0}

abbrev pub last_lines : Option Last → List (List ℕ)
last_lines None = []
last_lines (Some last) = last_line last ∷ []

-- the lines of records, followed by more
abbrev pub records_onto : Numbered (List ℕ) → List (List ℕ) → List (List ℕ)
records_onto [] more = more
records_onto (r ∷ records) more = record_line r.0 r.1 ∷ records_onto records more

-- the lines of a head, followed by more
abbrev pub head_onto : List ℕ → Opening → List (List ℕ) → List (List ℕ)
head_onto name o more = header ∷ recording_line name ∷ opening_line o.party o.first o.file ∷ more

pub record IsHead (party : Party) (name : List ℕ) (o : Opening) : Type 0 where
  pub is_name : IsName name
  pub is_party : o.party ≡ party
  pub first : o.first ≤ last_number
  pub file : o.file ≤ last_number

-- the lines of a party's file say this
pub record LinesSay (party : Party) (lines : List (List ℕ)) (s : Said) : Type 0 where
  pub spelled : lines ≡ head_onto s.name s.opening (records_onto s.records (last_lines s.last))
  pub head : IsHead party s.name s.opening
  pub next : ℕ
  pub rise : RiseTo s.opening.first s.records next
  pub last : IfSome s.last (λ last. IsLast last × IsBehind next last)

-- a file whose process died before it wrote the head: fewer than the three lines of a head
abbrev pub IsUnbegun : List (List ℕ) → Type 0
IsUnbegun [] = Unit {0}
IsUnbegun (a ∷ []) = a ≡ header
IsUnbegun (a ∷ b ∷ []) = (a ≡ header) × ((name : List ℕ) × IsName name × (b ≡ recording_line name))
IsUnbegun (a ∷ b ∷ c ∷ lines) = ⊥

-- the bytes of a party's file say this, or nothing if its head was not written
abbrev pub FileSays : Party → List ℕ → Option Said → Type 0
FileSays party bytes None = (lines : List (List ℕ)) × HasLines bytes lines × IsUnbegun lines
FileSays party bytes (Some s) = (lines : List (List ℕ)) × HasLines bytes lines × LinesSay party lines s

-- the bytes say this, and they are the known ones, if those are known
pub record Says (party : Party) (known : Option (List ℕ)) (said : Option Said) : Type 0 where
  pub bytes : List ℕ
  pub is_known : IfSome known (λ xs. bytes ≡ xs)
  pub says : FileSays party bytes said

-- ---- where they say nothing

-- the end of a line, or nothing
abbrev pub IsLineEnd : List ℕ → Type 0
IsLineEnd [] = Unit {0}
IsLineEnd (b ∷ more) = (b ≡ 10) × (more ≡ [])

-- The bytes say nothing from this line on, and they are the known ones, if those are known. If the file ended before
-- the line, it would say something. Whatever follows the line, the file says nothing. The line is given only as far as
-- that is decided.
pub record IsRefusedAt (party : Party) (known : Option (List ℕ)) (number : ℕ) (Is : List ℕ → Type 0) : Type 0 where
  pub lines : List (List ℕ)
  pub line : List ℕ
  pub end : List ℕ
  pub after : List ℕ
  pub is_known : IfSome known (λ xs. ended lines ++ (line ++ (end ++ after)) ≡ xs)
  pub counted : number ≡ length lines + 1
  pub plain : IsLine line
  pub ends : IsLineEnd end
  pub is : Is line
  pub said : Option Said
  pub before : FileSays party (ended lines) said
  pub refused : (other : List ℕ) (x : Option Said) → FileSays party (ended lines ++ (line ++ (end ++ other))) x → ⊥

-- the line of a record
abbrev pub IsRecord : List ℕ → Type 0
IsRecord line = (n : ℕ) × (text : List ℕ) × (n ≤ last_number) × (line ≡ record_line n text)

-- Nothing is said if the file could not be read to its end for another reason.
abbrev pub IsFault : Party → Option (List ℕ) → FileFault → Type 0
IsFault party known (Line number) = IsRefusedAt party known number (λ _. Unit {0})
IsFault party known (Order number) = IsRefusedAt party known number IsRecord
IsFault party known File = Unit {0}
IsFault party known Memory = Unit {0}

-- ---- reading it

-- the state of a reader of a file: what its head said, the least number that the next record may have, the number of
-- the next line, the text of the last record, how the log was left, and the bytes that are left
pub record Standing : Type 0 where
  pub name : List ℕ
  pub opening : Opening
  pub low : ℕ
  pub line : ℕ
  pub text : List ℕ
  pub last : Option Last
  pub left : Option (List ℕ)

-- of a file with these bytes, if they are known, the head and these records were read
pub record CameTo (party : Party) (known : Option (List ℕ)) (s : Standing) (came : Numbered (List ℕ)) : Type 0 where
  pub head : IsHead party s.name s.opening
  pub rise : RiseTo s.opening.first came s.low
  pub line : s.line ≡ length came + 4
  pub open_end : s.last ≡ None
  pub written : AllByRecursion IsWritten (head_onto s.name s.opening (records_onto came []))
  pub consumed : Consumes known s.left (ended (head_onto s.name s.opening (records_onto came [])))

-- the next record is this one, or there are no more records, and the file says this
abbrev pub Goes : Party → Option (List ℕ) → Standing → Numbered (List ℕ) → Option ℕ → Type 0
Goes party known s came None = Says party known (Some (record { name = s.name; opening = s.opening; records = came; last = s.last }))
Goes party known s came (Some number) = CameTo party known s (came ++ (number, s.text) ∷ [])
