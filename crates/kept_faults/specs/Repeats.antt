-- Repeats: reads and writes that give what an earlier record of their cell gave, and those that a thinning may leave out
-- without looking ahead.
use Rattle.std.specs.Prelude.{◌≡◌, ℕ, ◌<◌, Bool, true, false, not, ◌==◌, ◌&&◌, List, length, map, Some, slice_get}
use Rattle.std.specs.List.{range_with_len}
use Rattle.migration_types.specs.declared.records.GuestRec.{GuestRec}
use Rattle.migration_types.specs.declared.records.GuestRec.TheVariants.{Read, Write}
use Rattle.migration_types.specs.Sessions.{Recorded}
use Rattle.audit_model.specs.declared.home.Home.{Home}
use Rattle.audit_model.specs.declared.home.Home.TheVariants.{AtSource, Nowhere, AtTarget}
use Rattle.audit_model.specs.Flat.{flat, in_ledger, home}
use Rattle.audit_model.specs.Shape.{passes}
use Rattle.audit_model.specs.Worlds.{touched}
use Rattle.kept_faults.specs.Thinned.{decides}

-- whether it reads or writes this value in the cell
abbrev pub gives : ℕ → ℕ → ℕ → GuestRec → Bool
gives page cell value (Read vcpu p c y) = (p == page) && ((c == cell) && (y == value))
gives page cell value (Write vcpu p c y) = (p == page) && ((c == cell) && (y == value))
gives page cell value _ = false

-- a record before guest record n gives the cell this value, and none between decides its value
pub record IsTold (s : Recorded) (n page cell value : ℕ) : Type 0 where
  pub place : ℕ
  pub by : GuestRec
  pub is_earlier : place < n
  pub stands : slice_get s.guest place ≡ Some by
  pub is_given : gives page cell value by ≡ true
  pub is_unchanged : (k : ℕ) (r : GuestRec) → place < k → k < n → slice_get s.guest k ≡ Some r → decides page cell r ≡ false

-- whether the guest is at the source, or at the target, where it has used the page
abbrev pub has_used : Home → Bool → Bool
has_used AtSource used = true
has_used Nowhere used = false
has_used AtTarget used = used

-- whether guest record n reads or writes what its cell has, is not its page's first use at the target, and does not write
-- to a released page
abbrev pub is_repeat : Recorded → ℕ → GuestRec → Bool
is_repeat s n (Read vcpu p c value) = has_used (home s n) (touched s n p) && (value == flat s n p c)
is_repeat s n (Write vcpu p c value) = has_used (home s n) (touched s n p) && ((value == flat s n p c) && not (in_ledger s n p))
is_repeat s n _ = false

-- whether guest record n is no such repeat
abbrev pub is_new : Recorded → ℕ → Bool
is_new s n = not (passes (is_repeat s n) (slice_get s.guest n))

-- the marks that keep all of the guest's records but such repeats
abbrev pub without_repeats : Recorded → List Bool
without_repeats s = map (is_new s) (range_with_len 0 (length s.guest))
