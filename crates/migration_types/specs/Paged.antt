-- The page of a record.
use Rattle.std.specs.Prelude.{◌≡◌, ℕ, ◌<◌, ◌==◌, Bool, false, List, Option, Some, None, slice_get}
use Rattle.migration_types.specs.declared.pages.InitPage.{InitPage}
use Rattle.migration_types.specs.declared.records.GuestRec.{GuestRec}
use Rattle.migration_types.specs.declared.records.GuestRec.TheVariants.{Read, Write, Release}
use Rattle.migration_types.specs.declared.records.SourceRec.{SourceRec}
use Rattle.migration_types.specs.declared.records.SourceRec.TheVariants.{Send}
use Rattle.migration_types.specs.declared.records.PagerRec.{PagerRec}
use Rattle.migration_types.specs.declared.records.PagerRec.TheVariants.{Place, Zero}

-- the page of an initial page
abbrev pub init_page : InitPage → Option ℕ
init_page given = Some given.page

-- the page that the guest reads, writes or releases
abbrev pub guest_page : GuestRec → Option ℕ
guest_page (Read vcpu page cell value) = Some page
guest_page (Write vcpu page cell value) = Some page
guest_page (Release vcpu page) = Some page
guest_page _ = None

-- the page that the source sends for the first time
abbrev pub source_page : SourceRec → Option ℕ
source_page (Send page content) = Some page
source_page _ = None

-- the page that the pager places
abbrev pub pager_page : PagerRec → Option ℕ
pager_page (Place page got content) = Some page
pager_page (Zero page) = Some page
pager_page _ = None

-- whether it is this page
abbrev pub is_page : Option ℕ → ℕ → Bool
is_page None page = false
is_page (Some p) page = p == page

-- whether a record's page is this one
abbrev pub of_page : {A : Type 0} → (A → Option ℕ) → ℕ → A → Bool
of_page page_of page r = is_page (page_of r) page

-- the records' pages are below this number
pub record AreWithin {A : Type 0} (page_of : A → Option ℕ) (pages : ℕ) (log : List A) : Type 0 where
  pub each : (n p : ℕ) (r : A) → slice_get log n ≡ Some r → page_of r ≡ Some p → p < pages
