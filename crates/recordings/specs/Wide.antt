-- The machine and the records that values of 64 bits stand for.
use Rattle.std.specs.Prelude.{ℕ, List}
use Rattle.migration_types.specs.declared.pages.InitPage.{InitPage}
use Rattle.migration_types.specs.declared.records.LogName.{LogName}
use Rattle.migration_types.specs.declared.records.LogName.TheVariants as log
use Rattle.migration_types.specs.declared.records.GuestRec.{GuestRec}
use Rattle.migration_types.specs.declared.records.GuestRec.TheVariants as guest
use Rattle.migration_types.specs.declared.records.SourceRec.{SourceRec}
use Rattle.migration_types.specs.declared.records.SourceRec.TheVariants as source
use Rattle.migration_types.specs.declared.records.LinkRec.{LinkRec}
use Rattle.migration_types.specs.declared.records.LinkRec.TheVariants as link
use Rattle.migration_types.specs.declared.records.LaneRec.{LaneRec}
use Rattle.migration_types.specs.declared.records.LaneRec.TheVariants as lane
use Rattle.migration_types.specs.declared.records.PagerRec.{PagerRec}
use Rattle.migration_types.specs.declared.records.PagerRec.TheVariants as pager
use Rattle.migration_types.specs.Extents.{Extent}
use Rattle.migration_types.specs.Rows.{Consists, guest_row, source_row, link_row, lane_row, pager_row}
use Rattle.session_grammar.specs.Records.{guest_line, source_line, link_line, lane_line, pager_line}
use Rattle.recordings.specs.declared.machine.WideMachine.{WideMachine}
use Rattle.recordings.specs.declared.wide.WideInit.{WideInit}
use Rattle.recordings.specs.declared.wide.WideGuest.{WideGuest}
use Rattle.recordings.specs.declared.wide.WideGuest.TheVariants.{Read, Write, Release, Miss, Halt, Resume, See}
use Rattle.recordings.specs.declared.wide.WideSource.{WideSource}
use Rattle.recordings.specs.declared.wide.WideSource.TheVariants.{Halted, State, Send, Again, Ask, Done, Back}
use Rattle.recordings.specs.declared.wide.WideLink.{WideLink}
use Rattle.recordings.specs.declared.wide.WideLink.TheVariants.{Down, Up}
use Rattle.recordings.specs.declared.wide.WideLane.{WideLane}
use Rattle.recordings.specs.declared.wide.WideLane.TheVariants.{Down as LaneDown}
use Rattle.recordings.specs.declared.wide.WidePager.{WidePager}
use Rattle.recordings.specs.declared.wide.WidePager.TheVariants.{Got, Pull, Ready, Fault, Join, Want, Place, Zero, Skip, All}
use Rattle.recordings.specs.declared.wide.Wide.{Wide}
use Rattle.recordings.specs.declared.wide.Wide.TheVariants.{Guest, Source, Link, Lane, Pager}

-- the extent of a recording's machine: its text gives its size, but the limits of that size do not apply
abbrev pub extent_of : WideMachine → Extent
extent_of m = record { size = m.size; pages = m.pages; cells = m.cells }

abbrev pub init_of : WideInit → InitPage
init_of p = record { page = p.page; cells = p.cells }

abbrev pub guest_of : WideGuest → GuestRec
guest_of (Read vcpu page cell value) = guest.Read vcpu page cell value
guest_of (Write vcpu page cell value) = guest.Write vcpu page cell value
guest_of (Release vcpu page) = guest.Release vcpu page
guest_of (Miss vcpu page) = guest.Miss vcpu page
guest_of Halt = guest.Halt
guest_of (Resume ready) = guest.Resume ready
guest_of (See placement) = guest.See placement

abbrev pub source_of : WideSource → SourceRec
source_of (Halted halt) = source.Halted halt
source_of State = source.State
source_of (Send page contents) = source.Send page contents
source_of (Again sending) = source.Again sending
source_of (Ask up) = source.Ask up
source_of Done = source.Done
source_of Back = source.Back

abbrev pub link_of : WideLink → LinkRec
link_of (Down sending) = link.Down sending
link_of (Up asking) = link.Up asking

abbrev pub lane_of : WideLane → LaneRec
lane_of (LaneDown sending) = lane.Down sending

abbrev pub pager_of : WidePager → PagerRec
pager_of (Got down) = pager.Got down
pager_of (Pull down) = pager.Pull down
pager_of Ready = pager.Ready
pager_of (Fault miss) = pager.Fault miss
pager_of (Join want) = pager.Join want
pager_of (Want page) = pager.Want page
pager_of (Place page got contents) = pager.Place page got contents
pager_of (Zero page) = pager.Zero page
pager_of (Skip got) = pager.Skip got
pager_of All = pager.All

-- the log of a record
abbrev pub log_of : Wide → LogName
log_of (Guest rec) = log.Guest
log_of (Source rec) = log.Source
log_of (Link rec) = log.Link
log_of (Lane rec) = log.Lane
log_of (Pager rec) = log.Pager

-- what it consists of
abbrev pub wide_row : Wide → Consists
wide_row (Guest rec) = guest_row (guest_of rec)
wide_row (Source rec) = source_row (source_of rec)
wide_row (Link rec) = link_row (link_of rec)
wide_row (Lane rec) = lane_row (lane_of rec)
wide_row (Pager rec) = pager_row (pager_of rec)

-- its line
abbrev pub wide_line : Wide → List ℕ
wide_line (Guest rec) = guest_line (guest_of rec)
wide_line (Source rec) = source_line (source_of rec)
wide_line (Link rec) = link_line (link_of rec)
wide_line (Lane rec) = lane_line (lane_of rec)
wide_line (Pager rec) = pager_line (pager_of rec)
