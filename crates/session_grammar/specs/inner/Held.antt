-- The lines that a reader of sessions holds.
use Rattle.std.specs.Prelude.{◌≡◌, ℕ, ◌+◌, ◌-◌, ◌≤◌, List, [], ◌∷◌, ◌++◌, length}
use Rattle.std.specs.List.{AllByRecursion}
use Rattle.std.specs.Fmt.{decimal}
use Rattle.migration_types.specs.declared.records.GuestRec.{GuestRec}
use Rattle.migration_types.specs.declared.records.SourceRec.{SourceRec}
use Rattle.migration_types.specs.declared.records.LinkRec.{LinkRec}
use Rattle.migration_types.specs.declared.records.LaneRec.{LaneRec}
use Rattle.migration_types.specs.declared.records.PagerRec.{PagerRec}
use Rattle.migration_types.specs.declared.pages.InitPage.{InitPage}
use Rattle.migration_types.specs.declared.version.Version.{Version}
use Rattle.migration_types.specs.declared.version.Version.TheVariants.{One, Two}
use Rattle.migration_types.specs.Extents.{Extent, IsExtent}
use Rattle.migration_types.specs.Limits.{HasSize, limits}
use Rattle.migration_types.specs.Pages.{InitPageFits}
use Rattle.migration_types.specs.Sessions.{GuestRecFits, SourceRecFits, LinkRecFits, LaneRecFits, PagerRecFits}
use Rattle.session_grammar.specs.declared.stage.Stage.{Stage}
use Rattle.session_grammar.specs.declared.stage.Stage.TheVariants.{Header, Pages, Cells, InitCount, Init, Guest, Source, Link, Lane, Pager, Done}
pub use Rattle.text_lines.specs.Counted.{Part, part_onto, IsWhole}
use Rattle.session_grammar.specs.Records.{guest_line, source_line, link_line, lane_line, pager_line}
use Rattle.session_grammar.specs.inner.InitPages.{Rise}
use Rattle.session_grammar.specs.Grammar.{header, pages_key, cells_key, init_key, guest_key, source_key, link_key, lane_key, pager_key, page_line, closing}

-- what was read so far; in the first version, nothing of the lane
pub record SessionDraft : Type 0 where
  pub version : Version
  pub geometry : Extent
  pub next_page : ℕ
  pub init : Part InitPage
  pub guest : Part GuestRec
  pub source : Part SourceRec
  pub link : Part LinkRec
  pub lane : Part LaneRec
  pub pager : Part PagerRec

abbrev pub geometry_onto : SessionDraft → List (List ℕ) → List (List ℕ)
geometry_onto d more = header d.version d.geometry.size ∷ (pages_key ++ decimal d.geometry.pages) ∷ (cells_key ++ decimal d.geometry.cells) ∷ more

abbrev pub init_onto : SessionDraft → List (List ℕ) → List (List ℕ)
init_onto d more = geometry_onto d (part_onto init_key page_line d.init more)

abbrev pub guest_onto : SessionDraft → List (List ℕ) → List (List ℕ)
guest_onto d more = init_onto d (part_onto guest_key guest_line d.guest more)

abbrev pub source_onto : SessionDraft → List (List ℕ) → List (List ℕ)
source_onto d more = guest_onto d (part_onto source_key source_line d.source more)

abbrev pub link_onto : SessionDraft → List (List ℕ) → List (List ℕ)
link_onto d more = source_onto d (part_onto link_key link_line d.link more)

-- the lane's lines so far, which only the second version has, and then more
abbrev pub lane_part_onto : Version → Part LaneRec → List (List ℕ) → List (List ℕ)
lane_part_onto One part more = more
lane_part_onto Two part more = part_onto lane_key lane_line part more

abbrev pub lane_onto : SessionDraft → List (List ℕ) → List (List ℕ)
lane_onto d more = link_onto d (lane_part_onto d.version d.lane more)

abbrev pub pager_onto : SessionDraft → List (List ℕ) → List (List ℕ)
pager_onto d more = lane_onto d (part_onto pager_key pager_line d.pager more)

-- the lines so far, and then more
abbrev pub held_onto : Stage → SessionDraft → List (List ℕ) → List (List ℕ)
held_onto Header d more = more
held_onto Pages d more = header d.version d.geometry.size ∷ more
held_onto Cells d more = header d.version d.geometry.size ∷ (pages_key ++ decimal d.geometry.pages) ∷ more
held_onto InitCount d more = geometry_onto d more
held_onto Init d more = init_onto d more
held_onto Guest d more = guest_onto d more
held_onto Source d more = source_onto d more
held_onto Link d more = link_onto d more
held_onto Lane d more = lane_onto d more
held_onto Pager d more = pager_onto d more
held_onto Done d more = pager_onto d (closing ∷ more)

-- the machine, of a size that the version allows, and its pages so far, with room for those to come
pub record InitFits (version : Version) (e : Extent) (next : ℕ) (part : Part InitPage) : Type 0 where
  pub size : HasSize version e.size
  pub geometry : IsExtent e
  pub within : length part.items ≤ part.count
  pub each : AllByRecursion (InitPageFits e) part.items
  pub rising : Rise 0 part.items next
  pub room : next + (part.count - length part.items) ≤ e.pages

-- what comes before a log, the list right before it, which is complete, and the log's records so far, at most `most`
pub record LogFits {X Y : Type 0} (most : ℕ) (Before : Type 0) (list : Part X) (Fits : Y → Type 0) (log : Part Y) : Type 0 where
  pub before : Before
  pub whole : IsWhole list
  pub few : log.count ≤ most
  pub within : length log.items ≤ log.count
  pub each : AllByRecursion Fits log.items

-- the greatest number of records in a log
abbrev pub most_of : SessionDraft → ℕ
most_of d = (limits d.geometry.size).records

abbrev pub GuestFits : SessionDraft → Type 0
GuestFits d = LogFits (most_of d) (InitFits d.version d.geometry d.next_page d.init) d.init (GuestRecFits d.geometry) d.guest

abbrev pub SourceFits : SessionDraft → Type 0
SourceFits d = LogFits (most_of d) (GuestFits d) d.guest (SourceRecFits d.geometry) d.source

abbrev pub LinkFits : SessionDraft → Type 0
LinkFits d = LogFits (most_of d) (SourceFits d) d.source (LinkRecFits d.geometry) d.link

abbrev pub LaneFits : SessionDraft → Type 0
LaneFits d = LogFits (most_of d) (LinkFits d) d.link (LaneRecFits d.version d.geometry) d.lane

abbrev pub PagerFits : SessionDraft → Type 0
PagerFits d = LogFits (most_of d) (LaneFits d) d.lane (PagerRecFits d.version d.geometry) d.pager

-- nothing was read of the logs from this one on
abbrev pub NoPager : SessionDraft → Type 0
NoPager d = d.pager.items ≡ []

abbrev pub NoLane : SessionDraft → Type 0
NoLane d = (d.lane.items ≡ []) × NoPager d

abbrev pub NoLink : SessionDraft → Type 0
NoLink d = (d.link.items ≡ []) × NoLane d

abbrev pub NoSource : SessionDraft → Type 0
NoSource d = (d.source.items ≡ []) × NoLink d

abbrev pub NoGuest : SessionDraft → Type 0
NoGuest d = (d.guest.items ≡ []) × NoSource d

abbrev pub NoInit : SessionDraft → Type 0
NoInit d = (d.init.items ≡ []) × NoGuest d

-- the invariant of a reader that has refused no line
abbrev pub Live : Stage → SessionDraft → Type 0
Live Header d = NoInit d
Live Pages d = NoInit d × HasSize d.version d.geometry.size
Live Cells d = NoInit d × (1 ≤ d.geometry.pages) × (d.geometry.pages ≤ (limits d.geometry.size).pages) × HasSize d.version d.geometry.size
Live InitCount d = NoInit d × IsExtent d.geometry × HasSize d.version d.geometry.size
Live Init d = InitFits d.version d.geometry d.next_page d.init × NoGuest d
Live Guest d = GuestFits d × NoSource d
Live Source d = SourceFits d × NoLink d
Live Link d = LinkFits d × NoLane d
Live Lane d = LaneFits d × (d.version ≡ Two) × NoPager d
Live Pager d = PagerFits d
Live Done d = PagerFits d × IsWhole d.pager
