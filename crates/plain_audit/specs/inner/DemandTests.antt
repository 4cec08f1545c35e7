-- Tests for demands, which the plain programs compute.
use Rattle.std.specs.Prelude.{ℕ, Bool, true, false, not, ◌==◌, ◌&&◌, List, slice_get}
use Rattle.std.specs.Str.{bytes_eq}
use Rattle.migration_types.specs.declared.records.LogName.TheVariants.{Guest, Source, Link, Lane, Pager}
use Rattle.migration_types.specs.declared.records.GuestRec.{GuestRec}
use Rattle.migration_types.specs.declared.records.GuestRec.TheVariants.{Read, Write}
use Rattle.migration_types.specs.declared.records.SourceRec.{SourceRec}
use Rattle.migration_types.specs.declared.records.SourceRec.TheVariants.{Send}
use Rattle.migration_types.specs.declared.records.PagerRec.{PagerRec}
use Rattle.migration_types.specs.declared.records.PagerRec.TheVariants.{Place, Zero}
use Rattle.migration_types.specs.Memory.{page_of}
use Rattle.migration_types.specs.Receipts.{Name}
use Rattle.migration_types.specs.Sessions.{Recorded}
use Rattle.audit_model.specs.declared.home.Home.{Home}
use Rattle.audit_model.specs.declared.home.Home.TheVariants.{AtSource, Nowhere, AtTarget}
use Rattle.audit_model.specs.Flat.{flat}
use Rattle.audit_model.specs.Shape.{keeps}
use Rattle.audit_model.specs.World.{World}

-- whether a use of a page finds it, given where the guest is and whether the page is resident
abbrev pub finds : Home → Bool → Bool
finds AtSource resident = true
finds Nowhere resident = false
finds AtTarget resident = resident

-- the value where the guest is
abbrev pub value_at : Home → ℕ → ℕ → ℕ
value_at AtSource source target = source
value_at _ source target = target

abbrev pub is_source : Home → Bool
is_source AtSource = true
is_source _ = false

-- whether the contents are those of the source's page
abbrev pub is_source_page : Recorded → World → ℕ → List ℕ → Bool
is_source_page s w page content = bytes_eq content (page_of s.geometry.cells w.source page)

abbrev pub guest_test : Recorded → World → ℕ → GuestRec → Bool
guest_test s w n (Read vcpu p c value) = finds w.home (w.resident p) && ((value == value_at w.home (w.source p c) (w.target p c)) && (value == flat s n p c))
guest_test s w n (Write vcpu p c value) = finds w.home (w.resident p)
guest_test s w n _ = true

abbrev pub source_test : Recorded → World → SourceRec → Bool
source_test s w (Send p content) = not (is_source w.home) && (not (w.ledger p) && is_source_page s w p content)
source_test s w _ = true

abbrev pub pager_test : Recorded → World → PagerRec → Bool
pager_test s w (Place p got content) = not (w.placed p) && (not (w.touched p) && is_source_page s w p content)
pager_test s w (Zero p) = not (w.placed p) && (not (w.touched p) && w.ledger p)
pager_test s w _ = true

abbrev pub demand_test : Recorded → World → Name → Bool
demand_test s w (Guest, n) = keeps (guest_test s w n) (slice_get s.guest n)
demand_test s w (Source, n) = keeps (source_test s w) (slice_get s.source n)
demand_test s w (Link, n) = true
demand_test s w (Lane, n) = true
demand_test s w (Pager, n) = keeps (pager_test s w) (slice_get s.pager n)
