-- What is kept of a recording.
use Rattle.std.specs.Prelude.{◌≡◌, ℕ, ◌+◌, ◌≤◌, List, [], ◌∷◌, length, map}
use Rattle.std.specs.List.{AllByRecursion}
use Rattle.std.specs.List.Sorted.{IsStrictlyIncreasing}
use Rattle.migration_types.specs.declared.pages.InitPage.{InitPage}
use Rattle.migration_types.specs.declared.size.Size.{Size}
use Rattle.migration_types.specs.declared.size.Size.TheVariants.{Large}
use Rattle.migration_types.specs.declared.version.Version.{Version}
use Rattle.migration_types.specs.Extents.{Extent}
use Rattle.migration_types.specs.Limits.{longest_log}
use Rattle.migration_types.specs.Pages.{InitPageFits}
use Rattle.migration_types.specs.Sessions.{Recorded, LaneRecFits, PagerRecFits}
use Rattle.walked_sessions.specs.Made.{sized}
use Rattle.walked_sessions.specs.declared.init.HeldInit.{HeldInit}
use Rattle.walked_sessions.specs.declared.kept.Kept.{Kept}
use Rattle.walked_sessions.specs.declared.logs.HeldLog.{HeldLog}
use Rattle.walked_sessions.specs.Fitting.{GuestFits, SourceFits, LinkFits}
use Rattle.walked_sessions.specs.Needs.{AreNeeds}

-- a log has these records, and what they need is known
pub record IsLog {X : Type 0} (Fits : Version → Extent → X → Type 0) (machine : Extent) (log : HeldLog X) (records : List X) : Type 0 where
  pub items : log.items.items ≡ records
  pub few : length records ≤ longest_log
  pub needs : AreNeeds (λ version size. AllByRecursion (Fits version (sized size machine)) records) log.needs

-- the number after that of the last page, or this one if there is none
abbrev pub next_after : ℕ → List InitPage → ℕ
next_after low [] = low
next_after low (p ∷ pages) = next_after (p.page + 1) pages

-- These are the initial pages, each of which a machine of any size with as many pages and cells may have. Their numbers rise, and
-- the least that the next one may have is known.
pub record IsInit (machine : Extent) (init : HeldInit) (pages : List InitPage) : Type 0 where
  pub items : init.pages.items ≡ pages
  pub each : (size : Size) → AllByRecursion (InitPageFits (sized size machine)) pages
  pub rising : IsStrictlyIncreasing (map (λ p. p.page) pages)
  pub low : init.low ≡ next_after 0 pages

-- all of a recording is kept
pub record IsKept (kept : Kept) (d : Recorded) : Type 0 where
  pub machine : kept.machine ≡ sized Large d.geometry
  pub init : IsInit kept.machine kept.init d.init
  pub guest : IsLog GuestFits kept.machine kept.guest d.guest
  pub source : IsLog SourceFits kept.machine kept.source d.source
  pub link : IsLog LinkFits kept.machine kept.link d.link
  pub lane : IsLog LaneRecFits kept.machine kept.lane d.lane
  pub pager : IsLog PagerRecFits kept.machine kept.pager d.pager
