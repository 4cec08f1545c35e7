-- The records that a pass over a recording keeps, given what the pass before it found.
use Rattle.std.specs.Prelude.{ℕ, suc, ◌-◌, Bool, true, false, max, nat_lt, List, [], ◌∷◌, if◌then◌else◌}
use Rattle.migration_types.specs.declared.records.GuestRec.{GuestRec}
use Rattle.migration_types.specs.declared.records.GuestRec.TheVariants.{Read, Write, Release, Miss, Halt, Resume, See}
use Rattle.migration_types.specs.declared.records.SourceRec.{SourceRec}
use Rattle.migration_types.specs.declared.records.SourceRec.TheVariants.{Halted, State, Send, Again, Ask, Done, Back}
use Rattle.migration_types.specs.declared.records.LinkRec.{LinkRec}
use Rattle.migration_types.specs.declared.records.LinkRec.TheVariants.{Down, Up}
use Rattle.migration_types.specs.declared.records.LaneRec.{LaneRec}
use Rattle.migration_types.specs.declared.records.LaneRec.TheVariants.{Down as LaneDown}
use Rattle.migration_types.specs.declared.records.PagerRec.{PagerRec}
use Rattle.migration_types.specs.declared.records.PagerRec.TheVariants.{Got, Pull, Ready, Fault, Join, Want, Place, Zero, Skip, All}
use Rattle.session_grammar.specs.Records.{guest_line, source_line, link_line, lane_line, pager_line}
use Rattle.recordings.specs.Wide.{guest_of, source_of, link_of, lane_of, pager_of}
use Rattle.recordings.specs.declared.wide.Wide.{Wide}
use Rattle.recordings.specs.declared.wide.Wide.TheVariants.{Guest as WideGuest, Source as WideSource, Link as WideLink, Lane as WideLane, Pager as WidePager}
use Rattle.audit_model.specs.Windows.{Numbers, is_seen, new_page, rank, newest, keeps_sending}
use Rattle.windows.specs.declared.marking.Marks.{Marks}
use Rattle.windows.specs.inner.Marks.{has_mark, is_mark}

-- whether a record of the source is a kept sending, or repeats one
abbrev pub repeats_by : Numbers → Marks → SourceRec → Bool
repeats_by number known (Again sending) = has_mark known.source.sendings sending
repeats_by number known r = keeps_sending number r

-- whether a record of the source is kept
abbrev pub source_by : Numbers → Marks → SourceRec → Bool
source_by number known (Halted halt) = true
source_by number known State = true
source_by number known (Send p content) = is_seen (number p)
source_by number known (Again sending) = has_mark known.source.sendings sending
source_by number known (Ask up) = has_mark known.link up
source_by number known Done = true
source_by number known Back = true

-- whether a delivery is kept, given the records that repeat a sending
abbrev pub link_by : Marks → List Bool → LinkRec → Bool
link_by known repeats (Down sending) = has_mark repeats sending
link_by known repeats (Up asking) = has_mark known.pager.askings asking

abbrev pub lane_by : List Bool → LaneRec → Bool
lane_by repeats (LaneDown sending) = has_mark repeats sending

-- whether it takes a kept delivery
abbrev pub taking_by : List Bool → List Bool → PagerRec → Bool
taking_by link lane (Got down) = has_mark link down
taking_by link lane (Pull down) = has_mark lane down
taking_by link lane _ = false

-- whether a record of the pager is kept
abbrev pub pager_by : Numbers → Marks → PagerRec → Bool
pager_by number known (Got down) = has_mark known.link down
pager_by number known (Pull down) = has_mark known.lane down
pager_by number known Ready = true
pager_by number known (Fault miss) = has_mark known.guest.misses miss
pager_by number known (Join want) = has_mark known.pager.askings want
pager_by number known (Want p) = is_seen (number p)
pager_by number known (Place p got content) = is_seen (number p)
pager_by number known (Zero p) = is_seen (number p)
pager_by number known (Skip got) = has_mark known.pager.takings got
pager_by number known All = true

-- how far a look reaches
abbrev pub reach_by : Marks → ℕ → ℕ
reach_by known placement = newest is_mark known.pager.placements (suc placement)

-- how far looks reach after a record of the guest
abbrev pub further_by : Marks → GuestRec → ℕ → ℕ
further_by known (See placement) far = max far (reach_by known placement)
further_by known _ far = far

-- whether a record of the guest is kept, given how far looks reached before it
abbrev pub guest_by : Numbers → Marks → ℕ → GuestRec → Bool
guest_by number known far (Read vcpu p c value) = is_seen (number p)
guest_by number known far (Write vcpu p c value) = is_seen (number p)
guest_by number known far (Release vcpu p) = is_seen (number p)
guest_by number known far (Miss vcpu p) = is_seen (number p)
guest_by number known far Halt = true
guest_by number known far (Resume ready) = true
guest_by number known far (See placement) = nat_lt far (reach_by known placement)

-- the marks of the guest's records, and how far looks reach after them
abbrev pub guest_marks : Numbers → Marks → ℕ → List GuestRec → List Bool
guest_marks number known far [] = []
guest_marks number known far (r ∷ log) = guest_by number known far r ∷ guest_marks number known (further_by known r far) log

abbrev pub far_after : Marks → ℕ → List GuestRec → ℕ
far_after known far [] = far
far_after known far (r ∷ log) = far_after known (further_by known r far) log

-- a record with its page and what it names numbered anew
abbrev pub new_guest_by : Numbers → Marks → GuestRec → GuestRec
new_guest_by number known (Read vcpu p c value) = Read vcpu (new_page (number p)) c value
new_guest_by number known (Write vcpu p c value) = Write vcpu (new_page (number p)) c value
new_guest_by number known (Release vcpu p) = Release vcpu (new_page (number p))
new_guest_by number known (Miss vcpu p) = Miss vcpu (new_page (number p))
new_guest_by number known Halt = Halt
new_guest_by number known (Resume ready) = Resume (rank known.pager.kept ready)
new_guest_by number known (See placement) = See (rank known.pager.kept (reach_by known placement - 1))

abbrev pub new_source_by : Numbers → Marks → SourceRec → SourceRec
new_source_by number known (Halted halt) = Halted (rank known.guest.kept halt)
new_source_by number known State = State
new_source_by number known (Send p content) = Send (new_page (number p)) content
new_source_by number known (Again sending) = Again (rank known.source.kept sending)
new_source_by number known (Ask up) = Ask (rank known.link up)
new_source_by number known Done = Done
new_source_by number known Back = Back

abbrev pub new_link_by : Marks → LinkRec → LinkRec
new_link_by known (Down sending) = Down (rank known.source.kept sending)
new_link_by known (Up asking) = Up (rank known.pager.kept asking)

abbrev pub new_lane_by : Marks → LaneRec → LaneRec
new_lane_by known (LaneDown sending) = LaneDown (rank known.source.kept sending)

abbrev pub new_pager_by : Numbers → Marks → PagerRec → PagerRec
new_pager_by number known (Got down) = Got (rank known.link down)
new_pager_by number known (Pull down) = Pull (rank known.lane down)
new_pager_by number known Ready = Ready
new_pager_by number known (Fault miss) = Fault (rank known.guest.kept miss)
new_pager_by number known (Join want) = Join (rank known.pager.kept want)
new_pager_by number known (Want p) = Want (new_page (number p))
new_pager_by number known (Place p got content) = Place (new_page (number p)) (rank known.pager.kept got) content
new_pager_by number known (Zero p) = Zero (new_page (number p))
new_pager_by number known (Skip got) = Skip (rank known.pager.kept got)
new_pager_by number known All = All

-- the line of a record, with its page and what it names numbered anew
abbrev pub new_line_by : Numbers → Marks → Wide → List ℕ
new_line_by number known (WideGuest rec) = guest_line (new_guest_by number known (guest_of rec))
new_line_by number known (WideSource rec) = source_line (new_source_by number known (source_of rec))
new_line_by number known (WideLink rec) = link_line (new_link_by known (link_of rec))
new_line_by number known (WideLane rec) = lane_line (new_lane_by known (lane_of rec))
new_line_by number known (WidePager rec) = pager_line (new_pager_by number known (pager_of rec))

-- it, if these marks keep the record of this number
abbrev pub kept_line : Numbers → Marks → List Bool → ℕ → Wide → List (List ℕ)
kept_line number known marks n rec = if has_mark marks n then new_line_by number known rec ∷ [] else []
