-- Recordings: sessions of machines of any size. Their text is a session's text, and their numbers have no limit but
-- 2^63.
use Rattle.std.specs.Prelude.{◌≡◌, ℕ, ◌<◌, ◌≤◌, ◌^◌, List, length}
use Rattle.std.specs.List.{AllByRecursion}
use Rattle.migration_types.specs.declared.version.Version.{Version}
use Rattle.migration_types.specs.declared.records.GuestRec.{GuestRec}
use Rattle.migration_types.specs.declared.records.SourceRec.{SourceRec}
use Rattle.migration_types.specs.declared.records.LinkRec.{LinkRec}
use Rattle.migration_types.specs.declared.records.LaneRec.{LaneRec}
use Rattle.migration_types.specs.declared.records.PagerRec.{PagerRec}
use Rattle.migration_types.specs.Extents.{Extent}
use Rattle.migration_types.specs.Limits.{HasSize, most_cells}
use Rattle.migration_types.specs.Pages.{AreInitPages}
use Rattle.migration_types.specs.Sessions.{Recorded, GuestRecIn, SourceRecIn, LinkRecIn, LaneRecIn, PagerRecIn}
use Rattle.session_grammar.specs.Grammar.{session_lines}

-- a number of a page or a record, or how many there are
abbrev pub IsCount : ℕ → Type 0
IsCount n = n < 2 ^ 63

-- a machine: any number of pages, each with as many cells as a page may have
pub record IsMachine (e : Extent) : Type 0 where
  pub some_pages : 1 ≤ e.pages
  pub few_pages : IsCount e.pages
  pub some_cells : 1 ≤ e.cells
  pub few_cells : e.cells ≤ most_cells

-- a record's numbers are within a machine of this extent
abbrev pub IsGuestRecOf : Extent → GuestRec → Type 0
IsGuestRecOf e = GuestRecIn (2 ^ 63) e

abbrev pub IsSourceRecOf : Extent → SourceRec → Type 0
IsSourceRecOf e = SourceRecIn (2 ^ 63) e

abbrev pub IsLinkRecOf : LinkRec → Type 0
IsLinkRecOf = LinkRecIn (2 ^ 63)

abbrev pub IsLaneRecOf : Version → LaneRec → Type 0
IsLaneRecOf version = LaneRecIn (2 ^ 63) version

abbrev pub IsPagerRecOf : Version → Extent → PagerRec → Type 0
IsPagerRecOf version e = PagerRecIn (2 ^ 63) version e

-- a session of a machine of any size, whose text gives a size that its version has
pub record IsRecording (s : Recorded) : Type 0 where
  pub size : HasSize s.version s.geometry.size
  pub machine : IsMachine s.geometry
  pub init : AreInitPages s.geometry s.init
  pub few_guest : IsCount (length s.guest)
  pub few_source : IsCount (length s.source)
  pub few_link : IsCount (length s.link)
  pub few_lane : IsCount (length s.lane)
  pub few_pager : IsCount (length s.pager)
  pub guest : AllByRecursion (IsGuestRecOf s.geometry) s.guest
  pub source : AllByRecursion (IsSourceRecOf s.geometry) s.source
  pub link : AllByRecursion IsLinkRecOf s.link
  pub lane : AllByRecursion (IsLaneRecOf s.version) s.lane
  pub pager : AllByRecursion (IsPagerRecOf s.version s.geometry) s.pager

-- these are the lines of this recording's text
abbrev pub SpellsRecording : Recorded → List (List ℕ) → Type 0
SpellsRecording s lines = IsRecording s × (lines ≡ session_lines s)
