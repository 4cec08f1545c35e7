-- The moving world: two machines, of which each record changes one; and what each record demands of them.
use Rattle.std.specs.Prelude.{◌≡◌, ◌≢◌, ℕ, true, false, List, [], ◌∷◌, Option, Some, None, slice_get, if◌then◌else◌}
use Rattle.migration_types.specs.declared.records.LogName.TheVariants.{Guest, Source, Link, Lane, Pager}
use Rattle.migration_types.specs.declared.records.GuestRec.{GuestRec}
use Rattle.migration_types.specs.declared.records.GuestRec.TheVariants.{Read, Write, Release, Halt, Resume}
use Rattle.migration_types.specs.declared.records.SourceRec.{SourceRec}
use Rattle.migration_types.specs.declared.records.SourceRec.TheVariants.{Send}
use Rattle.migration_types.specs.declared.records.PagerRec.{PagerRec}
use Rattle.migration_types.specs.declared.records.PagerRec.TheVariants.{Place, Zero}
use Rattle.migration_types.specs.Memory.{Memory, zeros, with_cell, with_content, with_zeros, initial, page_of}
use Rattle.migration_types.specs.PageSets.{Pages, no_page, with_page, without_page}
use Rattle.migration_types.specs.Receipts.{Name}
use Rattle.migration_types.specs.Sessions.{Recorded}
use Rattle.audit_model.specs.Mergings.{IsMerging, StandsAfter}
use Rattle.audit_model.specs.Flat.{flat, Home, AtSource, Nowhere, AtTarget, changed}

-- where the guest is, the memories of both machines, the resident, placed and touched pages at the target, and the
-- ledger
pub record World : Type 0 where
  pub home : Home
  pub source : Memory
  pub target : Memory
  pub resident : Pages
  pub placed : Pages
  pub touched : Pages
  pub ledger : Pages

-- the guest at the source with its initial memory, and nothing at the target
abbrev pub start : Recorded → World
start s = record {
  home = AtSource;
  source = initial s.init;
  target = zeros;
  resident = no_page;
  placed = no_page;
  touched = no_page;
  ledger = no_page;
}

-- A write where the guest is. At the source it takes the page out of the ledger. At the target it touches the page, and
-- only a resident page changes.
abbrev pub write_at : Home → ℕ → ℕ → ℕ → World → World
write_at AtSource p c value w = record w { source = with_cell p c value w.source; ledger = without_page p w.ledger }
write_at Nowhere p c value w = w
write_at AtTarget p c value w =
    record w { target = if w.resident p then with_cell p c value w.target else w.target; touched = with_page p w.touched }

-- A release where the guest is, which leaves zeros. At the source it puts the page into the ledger. At the target it
-- makes the page resident and touches it.
abbrev pub release_at : Home → ℕ → World → World
release_at AtSource p w = record w { source = with_zeros p w.source; ledger = with_page p w.ledger }
release_at Nowhere p w = w
release_at AtTarget p w =
    record w { target = with_zeros p w.target; resident = with_page p w.resident; touched = with_page p w.touched }

-- a read, which at the target touches its page
abbrev pub read_at : Home → ℕ → World → World
read_at AtTarget p w = record w { touched = with_page p w.touched }
read_at _ p w = w

-- the world after a record of the guest, given where the guest is
abbrev pub guest_step_at : Home → GuestRec → World → World
guest_step_at h (Read vcpu p c value) w = read_at h p w
guest_step_at h (Write vcpu p c value) w = write_at h p c value w
guest_step_at h (Release vcpu p) w = release_at h p w
guest_step_at h Halt w = record w { home = Nowhere }
guest_step_at h (Resume ready) w = record w { home = AtTarget }
guest_step_at h _ w = w

-- the world after a record of the guest
abbrev pub guest_step : GuestRec → World → World
guest_step r w = guest_step_at w.home r w

-- the world after a record of the pager: a placement gives the page its contents at the target, or zeros, and makes it
-- resident
abbrev pub pager_step : PagerRec → World → World
pager_step (Place p got content) w =
    record w { target = with_content p content w.target; resident = with_page p w.resident; placed = with_page p w.placed }
pager_step (Zero p) w =
    record w { target = with_zeros p w.target; resident = with_page p w.resident; placed = with_page p w.placed }
pager_step _ w = w

-- the world after the record with this name; records of the source, the link and the lane change nothing
abbrev pub step : Recorded → Name → World → World
step s (Guest, n) w = changed guest_step (slice_get s.guest n) w
step s (Source, n) w = w
step s (Link, n) w = w
step s (Lane, n) w = w
step s (Pager, n) w = changed pager_step (slice_get s.pager n) w

-- the world after these records, starting from a world
abbrev pub run_from : Recorded → World → List Name → World
run_from s w [] = w
run_from s w (name ∷ names) = run_from s (step s name w) names

-- the world after these records, starting from the start
abbrev pub world_after : Recorded → List Name → World
world_after s names = run_from s (start s) names

-- the memory where the guest is, or the target's while it is nowhere
abbrev pub memory_at : Home → World → Memory
memory_at AtSource w = w.source
memory_at _ w = w.target

-- A read finds its page. Its value is that of the memory where the guest is, and that of the flat machine.
pub record ReadDemand (s : Recorded) (n p c value : ℕ) (w : World) : Type 0 where
  pub is_somewhere : w.home ≢ Nowhere
  pub is_resident : w.home ≡ AtTarget → w.resident p ≡ true
  pub is_the_cell : value ≡ memory_at w.home w p c
  pub is_flat : value ≡ flat s n p c

-- a write finds its page
pub record WriteDemand (p : ℕ) (w : World) : Type 0 where
  pub is_somewhere : w.home ≢ Nowhere
  pub is_resident : w.home ≡ AtTarget → w.resident p ≡ true

-- what is sent is an owed page with the source's contents, after the guest has left
pub record SendDemand (s : Recorded) (p : ℕ) (content : List ℕ) (w : World) : Type 0 where
  pub has_left : w.home ≢ AtSource
  pub is_the_page : content ≡ page_of s.geometry.cells w.source p
  pub is_owed : w.ledger p ≡ false

-- What is placed has the source's contents. The page is placed at most once, and before the guest touches it at the
-- target.
pub record PlaceDemand (s : Recorded) (p : ℕ) (content : List ℕ) (w : World) : Type 0 where
  pub is_new : w.placed p ≡ false
  pub is_untouched : w.touched p ≡ false
  pub is_the_page : content ≡ page_of s.geometry.cells w.source p

-- Zeros are placed only for a released page, at most once, and before the guest touches it at the target.
pub record ZeroDemand (p : ℕ) (w : World) : Type 0 where
  pub is_new : w.placed p ≡ false
  pub is_untouched : w.touched p ≡ false
  pub is_released : w.ledger p ≡ true

-- what a record of the guest demands
abbrev pub guest_demand : Recorded → ℕ → GuestRec → World → Type 0
guest_demand s n (Read vcpu p c value) w = ReadDemand s n p c value w
guest_demand s n (Write vcpu p c value) w = WriteDemand p w
guest_demand s n _ w = Unit {0}

-- what a record of the source demands
abbrev pub source_demand : Recorded → SourceRec → World → Type 0
source_demand s (Send p content) w = SendDemand s p content w
source_demand s _ w = Unit {0}

-- what a record of the pager demands
abbrev pub pager_demand : Recorded → PagerRec → World → Type 0
pager_demand s (Place p got content) w = PlaceDemand s p content w
pager_demand s (Zero p) w = ZeroDemand p w
pager_demand s _ w = Unit {0}

-- what a record demands, if there is one
abbrev pub if_record : {A : Type 0} → (A → World → Type 0) → Option A → World → Type 0
if_record demand None w = Unit {0}
if_record demand (Some x) w = demand x w

-- what the record with this name demands of the world before it
abbrev pub Demand : Recorded → Name → World → Type 0
Demand s (Guest, n) w = if_record (guest_demand s n) (slice_get s.guest n) w
Demand s (Source, n) w = if_record (source_demand s) (slice_get s.source n) w
Demand s (Link, n) w = Unit {0}
Demand s (Lane, n) w = Unit {0}
Demand s (Pager, n) w = if_record (pager_demand s) (slice_get s.pager n) w

-- each record of the order finds its demand met
abbrev pub IsSafeOrder : Recorded → List Name → Type 0
IsSafeOrder s order = (earlier : List Name) (name : Name) → StandsAfter order earlier name → Demand s name (world_after s earlier)

-- a session is safe when each of its mergings is
abbrev pub IsSafe : Recorded → Type 0
IsSafe s = (order : List Name) → IsMerging s order → IsSafeOrder s order

-- the first record of the order whose demand fails
pub record IsFirstBroken (s : Recorded) (order : List Name) (name : Name) : Type 0 where
  pub earlier : List Name
  pub stands : StandsAfter order earlier name
  pub is_safe_before : IsSafeOrder s earlier
  pub breaks : Demand s name (world_after s earlier) → ⊥
