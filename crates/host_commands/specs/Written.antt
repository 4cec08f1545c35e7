-- What became of an answer on its way to the output.
use Rattle.std.specs.Prelude.{◌≡◌, ℕ, List, Option, Result, Ok, Err}
use Rattle.std.specs.Io.KnownBytes.{Keeps}
use Rattle.text_access.specs.Written.{AppendsFront}
use Rattle.command_texts.specs.declared.answer.Fault.{Fault}
use Rattle.command_texts.specs.Told.{IsLeft, TellsOf}

-- a front of such an answer was appended to the output
pub record IsCut (IsAnswer : List ℕ → ℕ → Type 0) (old new : Option (List ℕ)) : Type 0 where
  pub text : List ℕ
  pub status : ℕ
  pub is_answer : IsAnswer text status
  pub written : AppendsFront old new text

-- such an answer was written; or there was such a fault, and a failure of the output cut the answer short, and any other
-- fault left the output as it was
abbrev pub IsWritten : (Fault → Type 0) → (List ℕ → ℕ → Type 0) → Option (List ℕ) → Option (List ℕ) → Result ℕ Fault → Type 0
IsWritten IsFault IsAnswer old new (Ok status) = TellsOf IsAnswer old new status
IsWritten IsFault IsAnswer old new (Err fault) = IsFault fault × IsLeft fault (IsCut IsAnswer old new) (Keeps old new)

-- the answer has this text and this status
abbrev pub Has : List ℕ → ℕ → List ℕ → ℕ → Type 0
Has text status = λ t s. (t ≡ text) × (s ≡ status)
