-- Tests for demands.
use Rattle.std.specs.Prelude.{ℕ, Bool, true, false, not, ◌==◌, ◌&&◌}
use Rattle.std.specs.Str.{bytes_eq}
use Rattle.migration_types.specs.declared.records.GuestRec.{GuestRec}
use Rattle.migration_types.specs.declared.records.GuestRec.TheVariants.{Read, Write}
use Rattle.migration_types.specs.declared.records.SourceRec.{SourceRec}
use Rattle.migration_types.specs.declared.records.SourceRec.TheVariants.{Send}
use Rattle.migration_types.specs.declared.records.PagerRec.{PagerRec}
use Rattle.migration_types.specs.declared.records.PagerRec.TheVariants.{Place, Zero}
use Rattle.migration_types.specs.Memory.{Memory, page_of}
use Rattle.audit_model.specs.declared.home.Home.{Home}
use Rattle.audit_model.specs.declared.home.Home.TheVariants.{AtSource, Nowhere, AtTarget}
use Rattle.audit_model.specs.World.{World, memory_at}

-- whether a read or a write finds its page, given where the guest is and whether the page is resident
abbrev pub finds : Home → Bool → Bool
finds AtSource resident = true
finds Nowhere resident = false
finds AtTarget resident = resident

-- whether the guest has left the source
abbrev pub has_left : Home → Bool
has_left AtSource = false
has_left Nowhere = true
has_left AtTarget = true

-- whether the page may be placed
abbrev pub is_open : World → ℕ → Bool
is_open w p = not (w.placed p) && not (w.touched p)

-- whether the demand of a record of the guest is met, given the memory of the flat machine
abbrev pub guest_met : Memory → GuestRec → World → Bool
guest_met f (Read vcpu p c value) w = finds w.home (w.resident p) && (memory_at w.home w p c == value) && (f p c == value)
guest_met f (Write vcpu p c value) w = finds w.home (w.resident p)
guest_met f _ w = true

-- whether the demand of a record of the source is met, on pages of this many cells
abbrev pub source_met : ℕ → SourceRec → World → Bool
source_met cells (Send p content) w = has_left w.home && not (w.ledger p) && bytes_eq content (page_of cells w.source p)
source_met cells _ w = true

-- whether the demand of a record of the pager is met
abbrev pub pager_met : ℕ → PagerRec → World → Bool
pager_met cells (Place p got content) w = is_open w p && bytes_eq content (page_of cells w.source p)
pager_met cells (Zero p) w = is_open w p && w.ledger p
pager_met cells _ w = true
