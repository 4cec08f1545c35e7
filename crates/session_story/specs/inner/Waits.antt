-- The records that next records wait for, after the logs were taken up to some places.
use Rattle.std.specs.Prelude.{◌≡◌, ℕ, zero, suc, ◌+◌, ◌<◌, ◌≤◌, List, length, Some, slice_get}
use Rattle.migration_types.specs.declared.records.LogName.{LogName}
use Rattle.migration_types.specs.declared.records.LogName.TheVariants.{Guest, Source, Link, Lane, Pager}
use Rattle.migration_types.specs.Sessions.{Recorded}
use Rattle.audit_model.specs.Names.{receipt}
use Rattle.audit_model.specs.Mergings.{Cursors}
use Rattle.session_story.specs.declared.knots.Waiting.{Waiting}
use Rattle.session_story.specs.declared.knots.Knot.{Knot}

-- the next record of a log, and the record that it is a receipt for
pub record IsNext (s : Recorded) (c : Cursors) (log : LogName) (w : Waiting) : Type 0 where
  pub log_is : w.log ≡ log
  pub place_is : w.place ≡ c log
  pub receives : receipt s (log, c log) ≡ Some (w.sent_log, w.sent_place)

-- each is the next of its log, and a receipt for a record that was not taken; and the next of that log follows it
pub record AreWaits (s : Recorded) (c : Cursors) (first log : LogName) (waits : List Waiting) : Type 0 where
  pub starts : (w : Waiting) → slice_get waits 0 ≡ Some w → w.log ≡ first
  pub empty : length waits ≡ 0 → log ≡ first
  pub each : (i : ℕ) (w : Waiting) → slice_get waits i ≡ Some w → IsNext s c w.log w × (c w.sent_log ≤ w.sent_place)
  pub goes_on : (i : ℕ) (w other : Waiting) → slice_get waits i ≡ Some w → slice_get waits (suc i) ≡ Some other → other.log ≡ w.sent_log
  pub ends : (last : ℕ) (w : Waiting) → length waits ≡ suc last → slice_get waits last ≡ Some w → w.sent_log ≡ log

-- the place among them of a log's waiting record, which is one more than its index
abbrev pub AreFound : List Waiting → Cursors → Type 0
AreFound waits found = (log : LogName) (i : ℕ) → found log ≡ suc i → (w : Waiting) × (slice_get waits i ≡ Some w) × (w.log ≡ log)

-- one for each log that has none
abbrev pub one_if_none : ℕ → ℕ
one_if_none zero = 1
one_if_none (suc n) = 0

abbrev pub unfound : Cursors → ℕ
unfound c = one_if_none (c Guest) + one_if_none (c Source) + one_if_none (c Link) + one_if_none (c Lane) + one_if_none (c Pager)

-- the records wait for one another, and the first is of this log
pub record IsCircleAt (s : Recorded) (c : Cursors) (first : LogName) (k : Knot) : Type 0 where
  pub log : LogName
  pub some : 0 < length k.waits.items
  pub waits : AreWaits s c first log k.waits.items
  pub other : Waiting
  pub there : slice_get k.waits.items k.back ≡ Some other
  pub log_is : other.log ≡ log
