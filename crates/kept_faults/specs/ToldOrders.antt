-- Orders of the records that recorders' files tell. The deliveries that are made of them are not among these records.
use Rattle.std.specs.Prelude.{◌≡◌, min, List, length, Option, Some, Contains}
use Rattle.std.specs.List.{range_with_len}
use Rattle.migration_types.specs.declared.records.LogName.{LogName}
use Rattle.migration_types.specs.declared.records.LogName.TheVariants.{Guest, Source, Link, Lane, Pager}
use Rattle.migration_types.specs.Names.{receipt_in}
use Rattle.migration_types.specs.Receipts.{Name, guest_receipt, source_receipt, link_receipt, lane_receipt, pager_receipt}
use Rattle.migration_types.specs.Sessions.{Recorded}
use Rattle.audit_model.specs.Mergings.{places_of, StandsAfter, Cursors}
use Rattle.recordings.specs.Wide.{guest_of, source_of, link_of, lane_of, pager_of}
use Rattle.recordings.specs.declared.machine.WideMachine.{WideMachine}
use Rattle.recordings.specs.declared.wide.WideInit.{WideInit}
use Rattle.recorder_files.specs.declared.raw.RawSource.{RawSource}
use Rattle.recorder_files.specs.declared.raw.RawSource.TheVariants.{Own as OwnSource, AskSent}
use Rattle.recorder_files.specs.declared.raw.RawPager.{RawPager}
use Rattle.recorder_files.specs.declared.raw.RawPager.TheVariants.{Own as OwnPager, GotSent, PullSent}
use Rattle.walked_sessions.specs.Walks.{Bytes, IsRecordingOf}

-- the record that a record names: the one that it is a receipt for, or the one that sent the message which it takes
abbrev pub named_by_source : RawSource → Option Name
named_by_source (OwnSource rec) = source_receipt (source_of rec)
named_by_source (AskSent asking) = Some (Pager, asking)

abbrev pub named_by_pager : RawPager → Option Name
named_by_pager (OwnPager rec) = pager_receipt (pager_of rec)
named_by_pager (GotSent sending) = Some (Source, sending)
named_by_pager (PullSent sending) = Some (Source, sending)

-- how many records of each log the files tell
abbrev pub told : {machine : WideMachine} {initial : List WideInit} {bytes : Bytes} {s : Recorded} → IsRecordingOf machine initial bytes s → Cursors
told made Guest = length made.guest
told made Source = length made.source
told made Link = length made.link
told made Lane = length made.lane
told made Pager = length made.pager

-- the record that the record with this name names, if the files tell it
abbrev pub named_in : {machine : WideMachine} {initial : List WideInit} {bytes : Bytes} {s : Recorded} → IsRecordingOf machine initial bytes s → Name → Option Name
named_in made (Guest, n) = receipt_in (λ r. guest_receipt (guest_of r)) made.guest n
named_in made (Source, n) = receipt_in named_by_source made.source n
named_in made (Link, n) = receipt_in (λ r. link_receipt (link_of r)) made.link n
named_in made (Lane, n) = receipt_in (λ r. lane_receipt (lane_of r)) made.lane n
named_in made (Pager, n) = receipt_in named_by_pager made.pager n

-- A list of names with each record of a front that the files tell exactly once, which keeps the order of each log, and in which each
-- record follows the one that it names.
pub record IsToldOrder {machine : WideMachine} {initial : List WideInit} {bytes : Bytes} {s : Recorded} (made : IsRecordingOf machine initial bytes s) (c : Cursors) (order : List Name) : Type 0 where
  pub each_once_in_order : (log : LogName) → places_of log order ≡ range_with_len 0 (min (c log) (told made log))
  pub named_before : (earlier : List Name) (name named : Name) → StandsAfter order earlier name → named_in made name ≡ Some named → Contains earlier named
