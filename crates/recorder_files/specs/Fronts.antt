-- Fronts of logs: the first records of each log, none of which names a record outside them.
use Rattle.std.specs.Prelude.{◌≡◌, ◌<◌, ◌≤◌, Some, take}
use Rattle.std.specs.List.{AllByRecursion}
use Rattle.std.specs.Option.{IfSome}
use Rattle.migration_types.specs.declared.records.LogName.{LogName}
use Rattle.migration_types.specs.declared.records.LogName.TheVariants.{Guest, Source, Link, Lane, Pager}
use Rattle.migration_types.specs.declared.rows.Field.{Field}
use Rattle.migration_types.specs.Receipts.{Name}
use Rattle.migration_types.specs.Rows.{Consists, field_name, row_of}
use Rattle.migration_types.specs.Sessions.{Recorded, log_length}
use Rattle.audit_model.specs.Mergings.{Cursors}
use Rattle.recorder_files.specs.declared.fronts.Front.{Front}

-- how many records each log has in the front
abbrev pub cursors_of : Front → Cursors
cursors_of f Guest = f.guest
cursors_of f Source = f.source
cursors_of f Link = f.link
cursors_of f Lane = f.lane
cursors_of f Pager = f.pager

-- if the field names a record, that record is in the front
abbrev pub NamesThere : Cursors → Field → Type 0
NamesThere c field = IfSome (field_name field) (λ named. named.1 < c named.0)

-- the first records of each log, each of which names only records that are among them
pub record IsFront (s : Recorded) (c : Cursors) : Type 0 where
  pub within : (log : LogName) → c log ≤ log_length s log
  pub there : (name : Name) (row : Consists) → row_of s name ≡ Some row → name.1 < c name.0 → AllByRecursion (NamesThere c) row.fields

-- it is a front, and no front has more records of any log
pub record IsGreatestFront (s : Recorded) (c : Cursors) : Type 0 where
  pub front : IsFront s c
  pub greatest : (d : Cursors) → IsFront s d → (log : LogName) → d log ≤ c log

-- it is a front of at most so many records of each log, and no such front has more records of any log
pub record IsGreatestFrontWithin (s : Recorded) (most c : Cursors) : Type 0 where
  pub front : IsFront s c
  pub few : (log : LogName) → c log ≤ most log
  pub greatest : (d : Cursors) → IsFront s d → ((log : LogName) → d log ≤ most log) → (log : LogName) → d log ≤ c log

-- the records of a session in a front
abbrev pub cut_to : Cursors → Recorded → Recorded
cut_to c s = record {
  version = s.version;
  geometry = s.geometry;
  init = s.init;
  guest = take (c Guest) s.guest;
  source = take (c Source) s.source;
  link = take (c Link) s.link;
  lane = take (c Lane) s.lane;
  pager = take (c Pager) s.pager;
}

-- each record names only records that exist
abbrev pub IsWhole : Recorded → Type 0
IsWhole s = IsFront s (log_length s)

-- the session has a greatest front
pub record HasGreatestFront (s : Recorded) : Type 0 where
  pub cursors : Cursors
  pub greatest : IsGreatestFront s cursors
