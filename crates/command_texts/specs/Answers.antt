-- The answer of a command to its texts: the text that it writes, and its status.
use Rattle.std.specs.Prelude.{◌≡◌, ℕ, List, [], ◌∷◌, ◌++◌, codes, ⊤}
use Rattle.std.specs.Fmt.{decimal}
use Rattle.command_texts.specs.declared.answer.Answer.{Answer}
use Rattle.command_texts.specs.Shown.{line_on, shown}
use Rattle.command_texts.specs.declared.answer.Fault.{Fault}
use Rattle.command_texts.specs.declared.answer.Fault.TheVariants.{File, Link, Threads, Output, Memory}

-- 4 if memory ran out, and 3 if a text, a link, a thread or an output failed
abbrev pub fault_status : Fault → ℕ
fault_status (File name why) = 3
fault_status Link = 3
fault_status Threads = 3
fault_status (Output name why) = 3
fault_status Memory = 4

-- the line about a text that could not be read to its end
abbrev pub file_line : List ℕ → List ℕ
file_line name = codes "file " ++ shown name ++ codes "\n"

-- the line about a text that could not be read to its end, followed by the words on the cause
abbrev pub file_lines : List ℕ → List ℕ → List ℕ
file_lines name why = file_line name ++ line_on name why

-- the line about an output that could not be written, followed by the words on the cause
abbrev pub output_lines : List ℕ → List ℕ → List ℕ
output_lines name why = codes "output\n" ++ line_on name why

-- the lines that report a fault
abbrev pub fault_line : Fault → List ℕ
fault_line (File name why) = file_lines name.now why.now
fault_line Link = codes "link\n"
fault_line Threads = codes "threads\n"
fault_line (Output name why) = output_lines name.now why.now
fault_line Memory = codes "out of memory\n"

-- a text under such a name could not be read to its end, or memory ran out
abbrev pub IsReadFault : (List ℕ → Type 0) → Fault → Type 0
IsReadFault IsName (File name why) = IsName name.now
IsReadFault IsName Link = ⊥
IsReadFault IsName Threads = ⊥
IsReadFault IsName (Output name why) = ⊥
IsReadFault IsName Memory = ⊤

-- an output could not be written
abbrev pub IsOutputFault : Fault → Type 0
IsOutputFault (Output name why) = ⊤
IsOutputFault other = ⊥

-- a list of answers stops early: an output could not be written, or memory ran out
abbrev pub IsListStop : Fault → Type 0
IsListStop Memory = ⊤
IsListStop other = IsOutputFault other

-- a fault of a command on texts under such names
abbrev pub IsTextFault : (List ℕ → Type 0) → Fault → Type 0
IsTextFault IsName (Output name why) = ⊤
IsTextFault IsName other = IsReadFault IsName other

-- a fault of a command that runs a migration
abbrev pub IsHostFault : (List ℕ → Type 0) → Fault → Type 0
IsHostFault IsName Link = ⊤
IsHostFault IsName Threads = ⊤
IsHostFault IsName other = IsTextFault IsName other

-- the answer has this text and this status
abbrev pub Says : Answer → List ℕ → ℕ → Type 0
Says answer text status = (answer.text.items ≡ text) × (answer.status ≡ status)

-- a right value exists that has this text and this status
pub record IsAnswer {V : Type 0} (IsRight : V → Type 0) (text_of : V → List ℕ) (status_of : V → ℕ) (text : List ℕ) (status : ℕ) : Type 0 where
  pub value : V
  pub is_right : IsRight value
  pub is_text : text ≡ text_of value
  pub is_status : status ≡ status_of value

-- the line of an answer of this kind, with a line number
abbrev pub numbered : List ℕ → ℕ → List ℕ
numbered kind n = kind ++ decimal n ++ 10 ∷ []
