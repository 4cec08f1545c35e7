-- What is kept, in steps.
use Rattle.std.specs.Prelude.{◌≡◌, ◌≤◌, List, [], length, Option, MatchOption}
use Rattle.migration_types.specs.declared.pages.InitPage.{InitPage}
use Rattle.migration_types.specs.declared.size.Size.{Size}
use Rattle.migration_types.specs.declared.size.Size.TheVariants.{Large}
use Rattle.migration_types.specs.declared.version.Version.{Version}
use Rattle.migration_types.specs.Extents.{Extent, IsExtent}
use Rattle.migration_types.specs.Limits.{limits}
use Rattle.migration_types.specs.Pages.{AreInitPages}
use Rattle.walked_sessions.specs.Made.{sized}
use Rattle.walked_sessions.specs.declared.logs.HeldLog.{HeldLog}
use Rattle.walked_sessions.specs.Fitting.{LogFits}
use Rattle.walked_sessions.specs.Needs.{Allows, AreNeeds, IsNever}

-- the machine with the large size, which is within limits if one of any size with as many pages and cells is
abbrev pub IsLargest : Extent → Option Extent → Type 0
IsLargest e found = MatchOption found ((size : Size) → IsExtent (sized size e) → ⊥) (λ largest. largest ≡ sized Large e)

-- its needs and its length are within the limits of a version and a size
abbrev pub IsWithin : {X : Type 0} → HeldLog X → Version → Size → Type 0
IsWithin log version size = Allows version size log.needs × (length log.items.items ≤ (limits size).records)

-- it has no records
pub record IsNoneYet {X : Type 0} (log : HeldLog X) : Type 0 where
  pub items : log.items.items ≡ []
  pub needs : AreNeeds (λ version size. Unit {0}) log.needs

-- no session has a log of these records
abbrev pub IsNoLog : {X : Type 0} → (Version → Extent → X → Type 0) → Extent → List X → Type 0
IsNoLog Fits machine records = IsNever (LogFits Fits machine records)

-- a machine of no size has these initial pages
abbrev pub IsNoInit : Extent → List InitPage → Type 0
IsNoInit machine pages = (size : Size) → AreInitPages (sized size machine) pages → ⊥
