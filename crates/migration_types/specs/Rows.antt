-- The one table of what each kind of record consists of.
use Rattle.std.specs.Prelude.{ℕ, List, [], ◌∷◌, Option, Some, None, codes, slice_get}
use Rattle.std.specs.Option.{option_map}
use Rattle.migration_types.specs.declared.records.LogName.TheVariants as log
use Rattle.migration_types.specs.declared.records.GuestRec.{GuestRec}
use Rattle.migration_types.specs.declared.records.GuestRec.TheVariants as guest
use Rattle.migration_types.specs.declared.records.SourceRec.{SourceRec}
use Rattle.migration_types.specs.declared.records.SourceRec.TheVariants as source
use Rattle.migration_types.specs.declared.records.LinkRec.{LinkRec}
use Rattle.migration_types.specs.declared.records.LinkRec.TheVariants as link
use Rattle.migration_types.specs.declared.records.LaneRec.{LaneRec}
use Rattle.migration_types.specs.declared.records.LaneRec.TheVariants as lane
use Rattle.migration_types.specs.declared.records.PagerRec.{PagerRec}
use Rattle.migration_types.specs.declared.records.PagerRec.TheVariants as pager
use Rattle.migration_types.specs.declared.rows.Field.{Field}
use Rattle.migration_types.specs.declared.rows.Field.TheVariants.{Vcpu, Page, Cell, Value, Number, Handover}
use Rattle.migration_types.specs.Receipts.{Name}
use Rattle.migration_types.specs.Sessions.{Recorded}

-- What a record consists of: its word, and the fields after it. Contents, which some records have last, are kept apart.
pub record Consists : Type 0 where
  pub word : List ℕ
  pub fields : List Field

abbrev pub consists : List ℕ → List Field → Consists
consists word fields = record { word = word; fields = fields }

-- a field's number, as it appears in lines
abbrev pub field_number : Field → ℕ
field_number (Vcpu n) = n
field_number (Page n) = n
field_number (Cell n) = n
field_number (Value n) = n
field_number (Number log n) = n
field_number (Handover log n) = n

-- the record that a field names, if it names one
abbrev pub field_name : Field → Option Name
field_name (Number log n) = Some (log, n)
field_name (Handover log n) = Some (log, n)
field_name _ = None

abbrev pub guest_row : GuestRec → Consists
guest_row (guest.Read vcpu page cell value) = consists (codes "r") (Vcpu vcpu ∷ Page page ∷ Cell cell ∷ Value value ∷ [])
guest_row (guest.Write vcpu page cell value) = consists (codes "w") (Vcpu vcpu ∷ Page page ∷ Cell cell ∷ Value value ∷ [])
guest_row (guest.Release vcpu page) = consists (codes "z") (Vcpu vcpu ∷ Page page ∷ [])
guest_row (guest.Miss vcpu page) = consists (codes "miss") (Vcpu vcpu ∷ Page page ∷ [])
guest_row guest.Halt = consists (codes "halt") []
guest_row (guest.Resume ready) = consists (codes "resume") (Handover log.Pager ready ∷ [])
guest_row (guest.See placement) = consists (codes "see") (Number log.Pager placement ∷ [])

abbrev pub source_row : SourceRec → Consists
source_row (source.Halted halt) = consists (codes "halted") (Handover log.Guest halt ∷ [])
source_row source.State = consists (codes "state") []
source_row (source.Send page contents) = consists (codes "send") (Page page ∷ [])
source_row (source.Again sending) = consists (codes "again") (Number log.Source sending ∷ [])
source_row (source.Ask up) = consists (codes "ask") (Number log.Link up ∷ [])
source_row source.Done = consists (codes "done") []
source_row source.Back = consists (codes "back") []

abbrev pub link_row : LinkRec → Consists
link_row (link.Down sending) = consists (codes "down") (Number log.Source sending ∷ [])
link_row (link.Up asking) = consists (codes "up") (Number log.Pager asking ∷ [])

abbrev pub lane_row : LaneRec → Consists
lane_row (lane.Down sending) = consists (codes "down") (Number log.Source sending ∷ [])

abbrev pub pager_row : PagerRec → Consists
pager_row (pager.Got down) = consists (codes "got") (Number log.Link down ∷ [])
pager_row (pager.Pull down) = consists (codes "pull") (Number log.Lane down ∷ [])
pager_row pager.Ready = consists (codes "ready") []
pager_row (pager.Fault miss) = consists (codes "fault") (Number log.Guest miss ∷ [])
pager_row (pager.Join want) = consists (codes "join") (Number log.Pager want ∷ [])
pager_row (pager.Want page) = consists (codes "want") (Page page ∷ [])
pager_row (pager.Place page got contents) = consists (codes "place") (Page page ∷ Number log.Pager got ∷ [])
pager_row (pager.Zero page) = consists (codes "zero") (Page page ∷ [])
pager_row (pager.Skip got) = consists (codes "skip") (Number log.Pager got ∷ [])
pager_row pager.All = consists (codes "all") []

-- the contents after the row of a record, if it has any
abbrev pub source_contents : SourceRec → Option (List ℕ)
source_contents (source.Send page contents) = Some contents
source_contents _ = None

abbrev pub pager_contents : PagerRec → Option (List ℕ)
pager_contents (pager.Place page got contents) = Some contents
pager_contents _ = None

-- what the record with this name consists of
abbrev pub row_of : Recorded → Name → Option Consists
row_of s (log.Guest, n) = option_map guest_row (slice_get s.guest n)
row_of s (log.Source, n) = option_map source_row (slice_get s.source n)
row_of s (log.Link, n) = option_map link_row (slice_get s.link n)
row_of s (log.Lane, n) = option_map lane_row (slice_get s.lane n)
row_of s (log.Pager, n) = option_map pager_row (slice_get s.pager n)
