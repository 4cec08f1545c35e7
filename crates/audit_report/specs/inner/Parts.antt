-- The runs of an order split by a cut.
use Rattle.std.specs.Prelude.{◌≡◌, ℕ, ◌+◌, ◌≤◌, List, length, slice_index_or, min, max}
use Rattle.std.specs.List.{filter}
use Rattle.migration_types.specs.declared.records.LogName.{LogName}
use Rattle.migration_types.specs.declared.cert.Run.{Run}
use Rattle.migration_types.specs.Limits.{longest_log}
use Rattle.migration_types.specs.Certs.{Alternate}
use Rattle.migration_types.specs.Sessions.{Recorded}
use Rattle.audit_model.specs.Names.{log_length}
use Rattle.audit_model.specs.Mergings.{Cursors, at_start, spelled}
use Rattle.audit_model.specs.Walks.{cursors_from}
use Rattle.audit_model.specs.Delayed.{is_below, rearranged}
use Rattle.cert_maker.specs.inner.Taking.{TakeRecords}

-- how many records of each log the runs take
abbrev pub ends : List Run → Cursors
ends runs = cursors_from at_start (spelled runs)

-- runs as long as they can be, of logs with no more records than a session's may have
pub record AreBlocks (runs : List Run) : Type 0 where
  pub small : (log : LogName) → ends runs log ≤ longest_log
  pub each : TakeRecords runs
  pub alternate : Alternate runs
  pub last : (k : ℕ) (d : Run) → k + 1 ≡ length runs → (slice_index_or runs k d).count ≤ ends runs (slice_index_or runs k d).log

-- no cursor of the cut is past its log's end
abbrev pub IsWithin : Recorded → Cursors → Type 0
IsWithin s d = (log : LogName) → d log ≤ log_length s log

-- the part of the order below the cut
pub record AreBelow (d : Cursors) (runs parts : List Run) : Type 0 where
  pub blocks : AreBlocks parts
  pub names : spelled parts ≡ filter (is_below d) (spelled runs)
  pub ends : (log : LogName) → ends parts log ≡ min (ends runs log) (d log)

-- the order with what is above the cut moved after what is below it
pub record AreRearranged (d : Cursors) (runs parts : List Run) : Type 0 where
  pub blocks : AreBlocks parts
  pub names : spelled parts ≡ rearranged d (spelled runs)
  pub ends : (log : LogName) → ends parts log ≡ max (ends runs log) (d log)
