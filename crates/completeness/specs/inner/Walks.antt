-- The state of the walks over the logs.
use Rattle.std.specs.Prelude.{◌≡◌, ◌<◌, ℕ, Bool, false, ◌||◌, ◌==◌, List, length, slice_index_or}
use Rattle.std.specs.List.{list_any}
use Rattle.migration_types.specs.declared.records.GuestRec.{GuestRec}
use Rattle.migration_types.specs.declared.records.GuestRec.TheVariants.{Write, Release}
use Rattle.migration_types.specs.declared.records.PagerRec.{PagerRec}
use Rattle.migration_types.specs.Sessions.{Recorded}
use Rattle.audit_model.specs.declared.home.Home.{Home}
use Rattle.audit_model.specs.Flat.{home, in_ledger, freed, freed_after, at_halt}
use Rattle.audit_model.specs.Shape.{earlier, is_placement_of}
use Rattle.balloon_ledger.specs.Released.{Marks, released}
use Rattle.page_store.specs.Tables.{Values}
use Rattle.page_facts.specs.Tables.{IsTable}
use Rattle.completeness.specs.Complete.{settles}
use Rattle.completeness.specs.declared.pages.LogFacts.{LogFacts}

-- the page that a record writes or releases is below this many
abbrev pub GuestPage : ℕ → GuestRec → Type 0
GuestPage pages (Write vcpu p c value) = p < pages
GuestPage pages (Release vcpu p) = p < pages
GuestPage pages _ = Unit {0}

-- the released pages before guest record n
pub record IsLedger (s : Recorded) (n : ℕ) (ledger : Marks) : Type 0 where
  pub geometry : ledger.geometry ≡ s.geometry
  pub set_is : released ledger ≡ in_ledger s n

-- the pages that were released at the target before guest record n, and where the guest is
pub record AreFreed (s : Recorded) (n : ℕ) (h : Home) (marks : Values Bool) : Type 0 where
  pub home_is : h ≡ home s n
  pub table : IsTable s.geometry.pages marks (freed s n)

-- the pages that were released at the target, after a record
abbrev pub freed_by : Home → GuestRec → (ℕ → Bool) → ℕ → Bool
freed_by h r at page = freed_after h page r (at page)

-- the pages that were placed before pager record n
abbrev pub ArePlaced : Recorded → ℕ → Values Bool → Type 0
ArePlaced s n table = IsTable s.geometry.pages table (λ page. earlier (is_placement_of page) s.pager n)

-- the placed pages after a record
abbrev pub placed_by : PagerRec → (ℕ → Bool) → ℕ → Bool
placed_by r at page = is_placement_of page r || at page

-- what the whole logs say about the pages
pub record AreSeen (s : Recorded) (seen : LogFacts) : Type 0 where
  pub ledger : IsLedger s (at_halt s) seen.ledger
  pub placed : IsTable s.geometry.pages seen.placed (λ page. list_any (is_placement_of page) s.pager)
  pub freed : IsTable s.geometry.pages seen.freed (freed s (length s.guest))

-- a mark for each record of the pager whose packet is placed or dropped before pager record n
pub record AreSettled (s : Recorded) (n : ℕ) (marks : List Bool) : Type 0 where
  pub many : length marks ≡ length s.pager
  pub each : (m : ℕ) → m < length s.pager → slice_index_or marks m false ≡ earlier (settles m) s.pager n

-- the marks with that of this number set, if there is one
pub record IsMarked (given : ℕ) (before after : List Bool) : Type 0 where
  pub many : length after ≡ length before
  pub each : (m : ℕ) → m < length before → slice_index_or after m false ≡ ((given == m) || slice_index_or before m false)

-- the marks after a record of the pager
pub record IsSettledBy (r : PagerRec) (before after : List Bool) : Type 0 where
  pub many : length after ≡ length before
  pub each : (m : ℕ) → m < length before → slice_index_or after m false ≡ (settles m r || slice_index_or before m false)
