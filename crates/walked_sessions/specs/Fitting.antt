-- The versions and the sizes in which a recording is a session.
use Rattle.std.specs.Prelude.{◌≤◌, List, length}
use Rattle.std.specs.List.{AllByRecursion}
use Rattle.migration_types.specs.declared.size.Size.{Size}
use Rattle.migration_types.specs.declared.version.Version.{Version}
use Rattle.migration_types.specs.declared.records.GuestRec.{GuestRec}
use Rattle.migration_types.specs.declared.records.SourceRec.{SourceRec}
use Rattle.migration_types.specs.declared.records.LinkRec.{LinkRec}
use Rattle.migration_types.specs.Extents.{Extent, IsExtent}
use Rattle.migration_types.specs.Limits.{limits, HasSize}
use Rattle.migration_types.specs.Pages.{AreInitPages}
use Rattle.migration_types.specs.Sessions.{Recorded, GuestRecFits, SourceRecFits, LinkRecFits, LaneRecFits, PagerRecFits}
use Rattle.walked_sessions.specs.Made.{sized}

-- a log's records and their number are within the limits
abbrev pub LogFits : {X : Type 0} → (Version → Extent → X → Type 0) → Extent → List X → Version → Size → Type 0
LogFits Fits e records version size = AllByRecursion (Fits version (sized size e)) records × (length records ≤ (limits size).records)

-- the limits of the records of each log
abbrev pub GuestFits : Version → Extent → GuestRec → Type 0
GuestFits version = GuestRecFits

abbrev pub SourceFits : Version → Extent → SourceRec → Type 0
SourceFits version = SourceRecFits

abbrev pub LinkFits : Version → Extent → LinkRec → Type 0
LinkFits version = LinkRecFits

-- a recording is within the limits of a version and a size
pub record Fits (d : Recorded) (v : Version) (s : Size) : Type 0 where
  pub size : HasSize v s
  pub geometry : IsExtent (sized s d.geometry)
  pub init : AreInitPages (sized s d.geometry) d.init
  pub guest : LogFits GuestFits d.geometry d.guest v s
  pub source : LogFits SourceFits d.geometry d.source v s
  pub link : LogFits LinkFits d.geometry d.link v s
  pub lane : LogFits LaneRecFits d.geometry d.lane v s
  pub pager : LogFits PagerRecFits d.geometry d.pager v s
