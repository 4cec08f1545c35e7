-- What a record is about: a page, or what another record is about.
use Rattle.std.specs.Prelude.{ℕ, zero, suc, Option, Some, None, slice_get}
use Rattle.migration_types.specs.declared.records.LogName.TheVariants.{Guest, Source, Link, Lane, Pager}
use Rattle.migration_types.specs.declared.records.GuestRec.{GuestRec}
use Rattle.migration_types.specs.declared.records.GuestRec.TheVariants.{Read, Write, Release, Miss, Halt, Resume, See}
use Rattle.migration_types.specs.declared.records.SourceRec.{SourceRec}
use Rattle.migration_types.specs.declared.records.SourceRec.TheVariants.{Halted, State, Send, Again, Ask, Done, Back}
use Rattle.migration_types.specs.declared.records.LinkRec.{LinkRec}
use Rattle.migration_types.specs.declared.records.LinkRec.TheVariants.{Down, Up}
use Rattle.migration_types.specs.declared.records.LaneRec.{LaneRec}
use Rattle.migration_types.specs.declared.records.LaneRec.TheVariants.{Down as LaneDown}
use Rattle.migration_types.specs.declared.records.PagerRec.{PagerRec}
use Rattle.migration_types.specs.declared.records.PagerRec.TheVariants.{Got, Pull, Ready, Fault, Join, Want, Place, Zero, Skip, All}
use Rattle.migration_types.specs.Receipts.{Name}
use Rattle.migration_types.specs.Sessions.{Recorded}
use Rattle.session_story.specs.declared.subjects.About.{About}
use Rattle.session_story.specs.declared.subjects.About.TheVariants.{Page, Record, Nothing}

-- a use, a release or a miss is about its page, and a look is about what the placement is about
abbrev pub guest_about : GuestRec → About
guest_about (Read vcpu page cell value) = Page page
guest_about (Write vcpu page cell value) = Page page
guest_about (Release vcpu page) = Page page
guest_about (Miss vcpu page) = Page page
guest_about Halt = Nothing
guest_about (Resume ready) = Nothing
guest_about (See placement) = Record Pager placement

-- a repeat is about what was sent, and a question about what the delivery is about
abbrev pub source_about : SourceRec → About
source_about (Halted halt) = Nothing
source_about State = Nothing
source_about (Send page contents) = Page page
source_about (Again sending) = Record Source sending
source_about (Ask up) = Record Link up
source_about Done = Nothing
source_about Back = Nothing

-- a delivery is about what was sent
abbrev pub link_about : LinkRec → About
link_about (Down sending) = Record Source sending
link_about (Up asking) = Record Pager asking

abbrev pub lane_about : LaneRec → About
lane_about (LaneDown sending) = Record Source sending

abbrev pub pager_about : PagerRec → About
pager_about (Got down) = Record Link down
pager_about (Pull down) = Record Lane down
pager_about Ready = Nothing
pager_about (Fault miss) = Record Guest miss
pager_about (Join want) = Record Pager want
pager_about (Want page) = Page page
pager_about (Place page got contents) = Page page
pager_about (Zero page) = Page page
pager_about (Skip got) = Record Pager got
pager_about All = Nothing

abbrev pub about_in : {X : Type 0} → (X → About) → Option X → About
about_in f None = Nothing
about_in f (Some rec) = f rec

-- what the record with this name is about
abbrev pub about : Recorded → Name → About
about s (Guest, n) = about_in guest_about (slice_get s.guest n)
about s (Source, n) = about_in source_about (slice_get s.source n)
about s (Link, n) = about_in link_about (slice_get s.link n)
about s (Lane, n) = about_in lane_about (slice_get s.lane n)
about s (Pager, n) = about_in pager_about (slice_get s.pager n)

abbrev pub page_by : (Name → Option ℕ) → About → Option ℕ
page_by next (Page page) = Some page
page_by next (Record log place) = next (log, place)
page_by next Nothing = None

-- the page that a record is about, found in at most this many steps from record to record
abbrev pub page_within : ℕ → Recorded → Name → Option ℕ
page_within zero s name = None
page_within (suc steps) s name = page_by (page_within steps s) (about s name)

-- The page that a record is about. A packet that was dropped is about what was taken, delivered, and sent again.
abbrev pub page_of : Recorded → Name → Option ℕ
page_of s name = page_within 5 s name
