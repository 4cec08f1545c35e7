-- The change of a cell that a read does not show.
use Rattle.std.specs.Prelude.{◌≡◌, ℕ, Bool, false, ◌==◌, ◌&&◌, Option, Some, None, slice_get}
use Rattle.migration_types.specs.Memory.{initial}
use Rattle.migration_types.specs.declared.records.GuestRec.{GuestRec}
use Rattle.migration_types.specs.declared.records.GuestRec.TheVariants.{Read, Write, Release}
use Rattle.migration_types.specs.Sessions.{Recorded}
use Rattle.session_story.specs.Scans.{last_before}
use Rattle.session_story.specs.Values.{sets}
use Rattle.session_story.specs.declared.losing.Lost.{Lost}

-- whether a record gives the cell this value: a write of it, or a release of its page if the value is zero
abbrev pub gives : ℕ → ℕ → ℕ → GuestRec → Bool
gives page cell value (Write vcpu p c x) = (p == page) && ((c == cell) && (x == value))
gives page cell value (Release vcpu p) = (p == page) && (value == 0)
gives page cell value _ = false

-- The cell had this value before guest record n, since the last record before n that gave it, or, if none did, from the
-- start.
pub record IsOlder (s : Recorded) (page cell value n : ℕ) (since : Option ℕ) : Type 0 where
  pub is_last : since ≡ last_before (λ m. gives page cell value) s.guest n
  pub begins : since ≡ None → initial s.init page cell ≡ value

-- this change is lost: the cell had the value before
pub record IsLostAt (s : Recorded) (page cell value change : ℕ) (l : Lost) : Type 0 where
  pub change_is : l.change ≡ change
  pub older : IsOlder s page cell value change l.since

-- This is the last change of the cell before the read that is guest record n, which gives a value that the cell had
-- before this change.
pub record IsLost (s : Recorded) (n : ℕ) (l : Lost) : Type 0 where
  pub vcpu : ℕ
  pub page : ℕ
  pub cell : ℕ
  pub value : ℕ
  pub reads : slice_get s.guest n ≡ Some (Read vcpu page cell value)
  pub changes : last_before (λ m. sets page cell) s.guest n ≡ Some l.change
  pub older : IsOlder s page cell value l.change l.since
