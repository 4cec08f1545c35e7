-- The limits of a session's logs.
use Rattle.std.specs.Prelude.{◌≤◌, length}
use Rattle.std.specs.List.{AllByRecursion}
use Rattle.migration_types.specs.declared.session.Logs.{Logs}
use Rattle.migration_types.specs.Extents.{Extent}
use Rattle.migration_types.specs.declared.version.Version.{Version}
use Rattle.migration_types.specs.Limits.{most_records}
use Rattle.migration_types.specs.Sessions.{GuestRecFits, SourceRecFits, LinkRecFits, LaneRecFits, PagerRecFits}

-- no log has more records than a host's log may have
pub record AreShort (logs : Logs) : Type 0 where
  pub guest : length logs.guest ≤ most_records
  pub source : length logs.source ≤ most_records
  pub link : length logs.link ≤ most_records
  pub lane : length logs.lane ≤ most_records
  pub pager : length logs.pager ≤ most_records

-- each record is allowed in a session of this version, and its numbers are within a machine of this extent
pub record AreOfMachine (version : Version) (e : Extent) (logs : Logs) : Type 0 where
  pub guest : AllByRecursion (GuestRecFits e) logs.guest
  pub source : AllByRecursion (SourceRecFits e) logs.source
  pub link : AllByRecursion (LinkRecFits e) logs.link
  pub lane : AllByRecursion (LaneRecFits version e) logs.lane
  pub pager : AllByRecursion (PagerRecFits version e) logs.pager
