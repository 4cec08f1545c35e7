-- Messages, as records take them.
use Rattle.std.specs.Prelude.{◌≡◌, ◌≢◌, ◌≤◌, ℕ, List, ◌++◌, Option, Some, None, IfSome, length, slice_get, take}
use Rattle.std.specs.Option.{option_to_list}
use Rattle.recorder_files.specs.declared.delivering.Message.{Message}
use Rattle.recorder_files.specs.Deliveries.{AreNumbers}
use Rattle.recorder_files.specs.Raw.{lost_number}
use Rattle.walked_sessions.specs.declared.cursors.Cursor.{Cursor}
use Rattle.walked_sessions.specs.Walks.{IsNumberOf}

-- the number that was found for a message, or that of none
abbrev pub number_or_lost : Option (Option ℕ) → ℕ
number_or_lost None = lost_number
number_or_lost (Some None) = lost_number
number_or_lost (Some (Some n)) = n

-- A cursor passes this message, if there is one, and this is its number.
pub record Passes (old new : Cursor) (message : Option Message) (number : ℕ) : Type 0 where
  pub messages : new.messages.now ≡ old.messages.now
  pub numbers : new.numbers.now ≡ old.numbers.now
  pub passed : old.place ≤ length old.messages.now → take new.place old.messages.now ≡ take old.place old.messages.now ++ option_to_list message
  pub within : old.place ≤ length old.messages.now → new.place ≤ length old.messages.now
  pub numbered : (deliveries : List Message) (count : ℕ) → AreNumbers old.messages.now count deliveries old.numbers.now → IfSome message (λ m. IsNumberOf deliveries count m number)

-- the messages that were passed since another place
pub record HasPassed (first now : Cursor) (told : List Message) : Type 0 where
  pub messages : now.messages.now ≡ first.messages.now
  pub numbers : now.numbers.now ≡ first.numbers.now
  pub within : first.place ≤ length first.messages.now → now.place ≤ length first.messages.now
  pub passed : first.place ≤ length first.messages.now → take now.place first.messages.now ≡ take first.place first.messages.now ++ told

-- there is a message, and it is not the next one
pub record IsNotNext (cursor : Cursor) (message : Option Message) : Type 0 where
  pub other : Message
  pub is : message ≡ Some other
  pub not_next : slice_get cursor.messages.now cursor.place ≢ Some other

-- a cursor at these messages and these numbers
pub record IsOver (c : Cursor) (messages : List Message) (numbers : List (Option ℕ)) (place : ℕ) : Type 0 where
  pub messages_are : c.messages.now ≡ messages
  pub numbers_are : c.numbers.now ≡ numbers
  pub place_is : c.place ≡ place
