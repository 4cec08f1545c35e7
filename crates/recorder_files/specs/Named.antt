-- What the records of a recording name, as far as it was met.
use Rattle.std.specs.Prelude.{[]}
use Rattle.migration_types.specs.declared.records.LogName.TheVariants.{Guest, Source, Link, Lane, Pager}
use Rattle.migration_types.specs.Sessions.{Recorded}
use Rattle.recorder_files.specs.declared.naming.Naming.{Naming}
use Rattle.recorder_files.specs.Reaches.{names_in, IsReach}

-- what the records of all logs name
pub record IsNaming (naming : Naming) (s : Recorded) : Type 0 where
  pub guest : IsReach naming.guest (names_in s Guest)
  pub source : IsReach naming.source (names_in s Source)
  pub link : IsReach naming.link (names_in s Link)
  pub lane : IsReach naming.lane (names_in s Lane)
  pub pager : IsReach naming.pager (names_in s Pager)

-- no records
pub record IsBlank (naming : Naming) : Type 0 where
  pub guest : IsReach naming.guest []
  pub source : IsReach naming.source []
  pub link : IsReach naming.link []
  pub lane : IsReach naming.lane []
  pub pager : IsReach naming.pager []
