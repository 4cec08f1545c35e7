-- The lines of a recorder's file. A line without an end, or a byte 0, is where the process died: from there on nothing
-- was written.
use Rattle.std.specs.Prelude.{◌≡◌, ℕ, ◌≤◌, Bool, true, ◌&&◌, ◌||◌, ◌==◌, nat_le, List, ◌∷◌, ◌++◌, codes, length}
use Rattle.std.specs.List.{list_all}
use Rattle.std.specs.Fmt.{decimal}
use Rattle.migration_types.specs.Receipts.{log_word}
use Rattle.recorder_files.specs.declared.lines.Party.{Party}
use Rattle.recorder_files.specs.declared.lines.Party.TheVariants.{Machine, Of}
use Rattle.recorder_files.specs.declared.lines.Last.{Last}
use Rattle.recorder_files.specs.declared.lines.Last.TheVariants.{End, Next, Lost}

-- The lines, in order:
--     postcopy-records 1       the header
--     recording NAME           the recording to which the file belongs
--     log PARTY FIRST FILE     the party whose log it is, the number of the process's first record, and the number of
--                              the file in which the process began
--     NUMBER RECORD            for each record
--     end COUNT                in one of the files: the party closed its log after this many records
-- In place of `end COUNT`, `next COUNT` says that another process goes on, and `lost ERRNO` that a record was not
-- written.

-- the greatest number of a record, and the greatest count
abbrev pub last_number : ℕ
last_number = 4294967294

abbrev pub header : List ℕ
header = codes "postcopy-records 1"

-- a letter, a digit, or one of `.`, `-` and `_`
abbrev pub is_of_name : ℕ → Bool
is_of_name b = (nat_le 97 b && nat_le b 122) || ((nat_le 65 b && nat_le b 90) || ((nat_le 48 b && nat_le b 57) || ((b == 46) || ((b == 45) || (b == 95)))))

-- the name of a recording: 1 to 64 of these
abbrev pub is_name : List ℕ → Bool
is_name name = nat_le 1 (length name) && (nat_le (length name) 64 && list_all is_of_name name)

abbrev pub IsName : List ℕ → Type 0
IsName name = is_name name ≡ true

abbrev pub recording_line : List ℕ → List ℕ
recording_line name = codes "recording " ++ name

abbrev pub party_word : Party → List ℕ
party_word Machine = codes "machine"
party_word (Of log) = log_word log

abbrev pub opening_line : Party → ℕ → ℕ → List ℕ
opening_line party first file = codes "log " ++ (party_word party ++ 32 ∷ (decimal first ++ 32 ∷ decimal file))

abbrev pub record_line : ℕ → List ℕ → List ℕ
record_line number text = decimal number ++ 32 ∷ text

abbrev pub last_line : Last → List ℕ
last_line (End count) = codes "end " ++ decimal count
last_line (Next count) = codes "next " ++ decimal count
last_line (Lost errno) = codes "lost " ++ decimal errno

abbrev pub IsLast : Last → Type 0
IsLast (End count) = count ≤ last_number
IsLast (Next count) = count ≤ last_number
IsLast (Lost errno) = errno ≤ last_number
