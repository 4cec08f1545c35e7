-- The world at one cell of one page, which the plain programs follow.
use Rattle.std.specs.Prelude.{ℕ, Bool, true, false, ◌==◌, ◌&&◌, slice_get, slice_index, if◌then◌else◌}
use Rattle.migration_types.specs.declared.records.LogName.TheVariants.{Guest, Source, Link, Lane, Pager}
use Rattle.migration_types.specs.declared.records.GuestRec.{GuestRec}
use Rattle.migration_types.specs.declared.records.GuestRec.TheVariants.{Read, Write, Release, Halt, Resume}
use Rattle.migration_types.specs.declared.records.PagerRec.{PagerRec}
use Rattle.migration_types.specs.declared.records.PagerRec.TheVariants.{Place, Zero}
use Rattle.migration_types.specs.Receipts.{Name}
use Rattle.migration_types.specs.Sessions.{Recorded}
use Rattle.plain_audit.specs.declared.world.Spot.{Spot}
use Rattle.audit_model.specs.declared.home.Home.{Home}
use Rattle.audit_model.specs.declared.home.Home.TheVariants.{AtSource, Nowhere, AtTarget}
use Rattle.audit_model.specs.Flat.{changed}
use Rattle.audit_model.specs.World.{World}

abbrev pub spot_at : World → ℕ → ℕ → Spot
spot_at w page cell = record {
  home = w.home;
  source = w.source page cell;
  target = w.target page cell;
  resident = w.resident page;
  placed = w.placed page;
  touched = w.touched page;
  released = w.ledger page;
}

-- the spot after a write, of the page or not, and of the cell or not
abbrev pub spot_written : Home → Bool → Bool → ℕ → Spot → Spot
spot_written AtSource is_page is_cell value o = record o { source = if is_page && is_cell then value else o.source; released = if is_page then false else o.released }
spot_written Nowhere is_page is_cell value o = o
spot_written AtTarget is_page is_cell value o = record o { target = if is_page && is_cell && o.resident then value else o.target; touched = if is_page then true else o.touched }

abbrev pub spot_released : Home → Bool → Spot → Spot
spot_released AtSource is_page o = record o { source = if is_page then 0 else o.source; released = if is_page then true else o.released }
spot_released Nowhere is_page o = o
spot_released AtTarget is_page o = record o { target = if is_page then 0 else o.target; resident = if is_page then true else o.resident; touched = if is_page then true else o.touched }

abbrev pub spot_read : Home → Bool → Spot → Spot
spot_read AtTarget is_page o = record o { touched = if is_page then true else o.touched }
spot_read _ is_page o = o

abbrev pub guest_spot : ℕ → ℕ → GuestRec → Spot → Spot
guest_spot page cell (Read vcpu p c value) o = spot_read o.home (p == page) o
guest_spot page cell (Write vcpu p c value) o = spot_written o.home (p == page) (c == cell) value o
guest_spot page cell (Release vcpu p) o = spot_released o.home (p == page) o
guest_spot page cell Halt o = record o { home = Nowhere }
guest_spot page cell (Resume ready) o = record o { home = AtTarget }
guest_spot page cell _ o = o

-- the spot after a placement, of the page or not
abbrev pub spot_placed : Bool → ℕ → Spot → Spot
spot_placed is_page value o = record o { target = if is_page then value else o.target; resident = if is_page then true else o.resident; placed = if is_page then true else o.placed }

abbrev pub pager_spot : ℕ → ℕ → PagerRec → Spot → Spot
pager_spot page cell (Place p got content) o = spot_placed (p == page) (slice_index content cell) o
pager_spot page cell (Zero p) o = spot_placed (p == page) 0 o
pager_spot page cell _ o = o

abbrev pub spot_step : Recorded → ℕ → ℕ → Name → Spot → Spot
spot_step s page cell (Guest, n) o = changed (guest_spot page cell) (slice_get s.guest n) o
spot_step s page cell (Source, n) o = o
spot_step s page cell (Link, n) o = o
spot_step s page cell (Lane, n) o = o
spot_step s page cell (Pager, n) o = changed (pager_spot page cell) (slice_get s.pager n) o
