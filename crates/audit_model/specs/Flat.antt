-- The flat machine, one machine that never moved, and the pages that its guest released.
use Rattle.std.specs.Prelude.{◌≡◌, ℕ, zero, suc, Bool, true, false, ◌==◌, ◌&&◌, List, [], ◌∷◌, Option, Some, None, slice_get, if◌then◌else◌}
use Rattle.migration_types.specs.declared.records.GuestRec.{GuestRec}
use Rattle.migration_types.specs.declared.records.GuestRec.TheVariants.{Read, Write, Release, Halt, Resume}
pub use Rattle.audit_model.specs.declared.home.Home.{Home}
pub use Rattle.audit_model.specs.declared.home.Home.TheVariants.{AtSource, Nowhere, AtTarget}
use Rattle.migration_types.specs.Memory.{Memory, initial}
use Rattle.migration_types.specs.Sessions.{Recorded}

-- what a record, if there is one, changes a value to
abbrev pub changed : {A B : Type 0} → (A → B → B) → Option A → B → B
changed change None old = old
changed change (Some x) old = change x old

-- the value before record n of a log, changed by each earlier record in turn
abbrev pub before : {A B : Type 0} → (A → B → B) → B → List A → ℕ → B
before change start log zero = start
before change start log (suc n) = changed change (slice_get log n) (before change start log n)

-- the value of a cell: a write to it and a release of its page decide it, and no other record does
abbrev pub cell_after : ℕ → ℕ → GuestRec → ℕ → ℕ
cell_after page cell (Write vcpu p c value) old = if (p == page) && (c == cell) then value else old
cell_after page cell (Release vcpu p) old = if p == page then 0 else old
cell_after page cell _ old = old

-- the memory of the flat machine before guest record n
abbrev pub flat : Recorded → ℕ → Memory
flat s n page cell = before (cell_after page cell) (initial s.init page cell) s.guest n

-- each read of this page gives what the flat machine gives
abbrev pub ReadsFlatAt : Recorded → ℕ → Type 0
ReadsFlatAt s page = (n vcpu cell value : ℕ) → slice_get s.guest n ≡ Some (Read vcpu page cell value) → value ≡ flat s n page cell

-- whether a page is released: its last write or release is a release
abbrev pub released_after : ℕ → GuestRec → Bool → Bool
released_after page (Write vcpu p c value) old = if p == page then false else old
released_after page (Release vcpu p) old = if p == page then true else old
released_after page _ old = old

-- the ledger before guest record n: the pages that are released
abbrev pub in_ledger : Recorded → ℕ → ℕ → Bool
in_ledger s n page = before (released_after page) false s.guest n

-- where the guest is: a halt takes it off the source, and a resume brings it to the target
abbrev pub home_after : GuestRec → Home → Home
home_after Halt old = Nowhere
home_after (Resume ready) old = AtTarget
home_after _ old = old

-- where the guest is before its record n
abbrev pub home : Recorded → ℕ → Home
home s n = before home_after AtSource s.guest n

-- whether the guest is at the target
abbrev pub is_target : Home → Bool
is_target AtTarget = true
is_target _ = false

-- whether a page is marked after a record, which marks it only at the target
abbrev pub marked_late : Home → Bool → Bool → Bool
marked_late AtSource marks old = old
marked_late Nowhere marks old = old
marked_late AtTarget marks old = if marks then true else old

-- whether a page is freed after this record, given where the guest is
abbrev pub freed_after : Home → ℕ → GuestRec → Bool → Bool
freed_after h page (Release vcpu p) old = marked_late h (p == page) old
freed_after h page _ old = old

-- the pages that the guest has released at the target before its record n
abbrev pub freed : Recorded → ℕ → ℕ → Bool
freed s zero page = false
freed s (suc n) page = changed (freed_after (home s n) page) (slice_get s.guest n) (freed s n page)

-- the place of the first halt, or the log's length if there is none
abbrev pub halt_place : List GuestRec → ℕ
halt_place [] = 0
halt_place (Halt ∷ log) = 0
halt_place (_ ∷ log) = suc (halt_place log)

-- the number of the guest record before which the flat machine and the ledger are those at the halt
abbrev pub at_halt : Recorded → ℕ
at_halt s = halt_place s.guest
