-- What records need of the version and of the size of their session.
use Rattle.std.specs.Prelude.{◌≡◌, ◌≤◌, ◌↔◌, true}
use Rattle.migration_types.specs.declared.size.Size.{Size}
use Rattle.migration_types.specs.declared.version.Version.{Version}
use Rattle.migration_types.specs.Limits.{limits}
use Rattle.migration_types.specs.Sessions.{HasLane, HasBack}
use Rattle.walked_sessions.specs.declared.needs.Needs.{Needs}

-- a version and a size have what is needed
pub record Allows (version : Version) (size : Size) (needs : Needs) : Type 0 where
  pub past : needs.past ≤ (limits size).records
  pub lane : needs.lane ≡ true → HasLane version
  pub back : needs.back ≡ true → HasBack size

-- this is so in a version and a size exactly if they have what is needed
abbrev pub AreNeeds : (Version → Size → Type 0) → Needs → Type 0
AreNeeds IsSo needs = (version : Version) (size : Size) → IsSo version size ↔ Allows version size needs

-- this is so in no version and size
abbrev pub IsNever : (Version → Size → Type 0) → Type 0
IsNever IsSo = (version : Version) (size : Size) → IsSo version size → ⊥
