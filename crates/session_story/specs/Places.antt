-- The line of a record in a session's text.
use Rattle.std.specs.Prelude.{◌≡◌, ℕ, ◌<◌}
use Rattle.migration_types.specs.declared.records.LogName.{LogName}
use Rattle.migration_types.specs.Sessions.{Recorded, line_of, log_length}

-- the record at this place of a log exists, and is at this line
pub record IsAtLineOf (s : Recorded) (log : LogName) (line place : ℕ) : Type 0 where
  pub is_there : place < log_length s log
  pub is_line : line ≡ line_of s (log, place)

-- no record of a log is at this line; no record of any log is
abbrev pub HasNoneOf : Recorded → ℕ → LogName → Type 0
HasNoneOf s line log = (place : ℕ) → IsAtLineOf s log line place → ⊥

abbrev pub HasNoRecord : Recorded → ℕ → Type 0
HasNoRecord s line = (log : LogName) → HasNoneOf s line log
