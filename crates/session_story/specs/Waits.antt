-- Records that wait for one another.
use Rattle.std.specs.Prelude.{◌≡◌, ℕ, suc, ◌+◌, ◌<◌, ◌≤◌, nat_lt, length, Option, Some, None, slice_get, if◌then◌else◌}
use Rattle.migration_types.specs.Sessions.{Recorded, line_of}
use Rattle.audit_model.specs.Names.{receipt}
use Rattle.audit_model.specs.FoundOrder.{IsKnot}
use Rattle.session_story.specs.declared.knots.Waiting.{Waiting}
use Rattle.session_story.specs.declared.knots.Knot.{Knot}

-- what a record waits for is in the other's log, and is the other or comes after it
pub record WaitsFor (w other : Waiting) : Type 0 where
  pub log : other.log ≡ w.sent_log
  pub place : other.place ≤ w.sent_place

-- the record after the one of this index, or else the one at which the circle begins
abbrev pub or_back : Knot → Option Waiting → Option Waiting
or_back k None = slice_get k.waits.items k.back
or_back k (Some next) = Some next

abbrev pub next_in : Knot → ℕ → Option Waiting
next_in k i = if nat_lt i (length k.waits.items) then or_back k (slice_get k.waits.items (i + 1)) else None

-- Records each of which is a receipt for one that comes no earlier than the next of them. The first is at the line of
-- the knot. The last waits for one of them, and from that one on they form a circle.
pub record IsCircle (s : Recorded) (k : Knot) : Type 0 where
  pub some : 0 < length k.waits.items
  pub starts : (w : Waiting) → slice_get k.waits.items 0 ≡ Some w → IsKnot s (line_of s (w.log, w.place))
  pub receives : (i : ℕ) (w : Waiting) → slice_get k.waits.items i ≡ Some w → receipt s (w.log, w.place) ≡ Some (w.sent_log, w.sent_place)
  pub goes_on : (i : ℕ) (w other : Waiting) → slice_get k.waits.items i ≡ Some w → slice_get k.waits.items (suc i) ≡ Some other → WaitsFor w other
  pub closes : (last : ℕ) (w : Waiting) → length k.waits.items ≡ suc last → slice_get k.waits.items last ≡ Some w → (other : Waiting) × (slice_get k.waits.items k.back ≡ Some other) × WaitsFor w other
