-- The target's history: what the guest recorded and what the pager placed, in the order in which it happened.
use Rattle.std.specs.Prelude.{◌≡◌, ℕ, Bool, true, false, ◌<◌, is_some, ◌||◌, if◌then◌else◌, List, [], ◌∷◌, length, Option, Some, None, slice_get}
use Rattle.std.specs.List.{AllByRecursion}
use Rattle.migration_types.specs.declared.records.GuestRec.{GuestRec}
use Rattle.migration_types.specs.declared.records.GuestRec.TheVariants.{Read, Write, Release, Miss, Resume, See}
use Rattle.migration_types.specs.Extents.{Extent}
use Rattle.migration_types.specs.Memory.{Memory, zeros, with_cell, with_content, with_zeros}
use Rattle.migration_types.specs.PageSets.{Pages, no_page, with_page}
use Rattle.residency.specs.Placements.{Placements, no_placement, with_placement, is_resident, raised, is_covered}
use Rattle.audit_model.specs.Flat.{before}
use Rattle.target_side.specs.declared.access.UntakenMiss.{UntakenMiss}
use Rattle.target_side.specs.TargetPart.{TargetPart}

-- A happening: the guest recorded something, or the pager placed a page by its record of this number, with these cells
-- and zeros after them.
pub data Happening : Type 0 where
  Did : GuestRec → Happening
  Placed : ℕ → ℕ → List ℕ → Happening

-- the guest's records of a history
abbrev pub guest_part : List Happening → List GuestRec
guest_part [] = []
guest_part (Did r ∷ rest) = r ∷ guest_part rest
guest_part (Placed page number content ∷ rest) = guest_part rest

-- The target: the pages that were placed, each with the number of its placement, those that were absent when the guest
-- released them there, the cells of both, the greatest placement that the guest has looked at, and whether the guest
-- runs there.
pub record Target : Type 0 where
  pub placed : Placements
  pub freed : Pages
  pub memory : Memory
  pub frontier : Option ℕ
  pub is_resumed : Bool

abbrev pub untouched : Target
untouched = record { placed = no_placement; freed = no_page; memory = zeros; frontier = None; is_resumed = false }

-- the pages that were absent when they were released, with this one if it is absent
abbrev pub freed_by : ℕ → Option ℕ → Pages → Pages
freed_by page None all = with_page page all
freed_by page (Some number) all = all

-- a release, which changes nothing at the target if the guest does not run there
abbrev pub released_at : ℕ → Target → Target
released_at page t = record t { memory = with_zeros page t.memory; freed = freed_by page (t.placed page) t.freed }

-- the target after a record of the guest
abbrev pub recorded_after : GuestRec → Target → Target
recorded_after (Write vcpu page cell value) t = record t { memory = with_cell page cell value t.memory }
recorded_after (Release vcpu page) t = if t.is_resumed then released_at page t else t
recorded_after (Resume ready) t = record t { is_resumed = true }
recorded_after (See placement) t = record t { frontier = raised placement t.frontier }
recorded_after _ t = t

abbrev pub target_after : Happening → Target → Target
target_after (Did r) t = recorded_after r t
target_after (Placed page number content) t = record t { placed = with_placement page number t.placed; memory = with_content page content t.memory }

-- the target before happening n of a history, changed by each earlier one in turn
abbrev pub target_at : List Happening → ℕ → Target
target_at history n = before target_after untouched history n

-- the page was placed, and the guest has looked at its placement or at a later one; or it was released while it was
-- absent
abbrev pub IsCovered : ℕ → Target → Type 0
IsCovered page t = (is_covered (t.placed page) t.frontier || t.freed page) ≡ true

-- What a record demands of the target. There, reads and writes must be of covered pages, and so must releases of placed
-- pages. A read must give the value of its cell. A look must be at the placement of some page.
abbrev pub MeetsRecord : GuestRec → Target → Type 0
MeetsRecord (Read vcpu page cell value) t = t.is_resumed ≡ true → IsCovered page t × (value ≡ t.memory page cell)
MeetsRecord (Write vcpu page cell value) t = t.is_resumed ≡ true → IsCovered page t
MeetsRecord (Release vcpu page) t = t.is_resumed ≡ true → is_some (t.placed page) ≡ true → IsCovered page t
MeetsRecord (See placement) t = (page : ℕ) × (t.placed page ≡ Some placement)
MeetsRecord _ t = Unit {0}

-- what a happening demands: a record what it demands, and a placement that its page is absent
abbrev pub Meets : Happening → Target → Type 0
Meets (Did r) t = MeetsRecord r t
Meets (Placed page number content) t = is_resident (t.placed page) (t.freed page) ≡ false

-- each happening finds its demand met
abbrev pub IsHistory : List Happening → Type 0
IsHistory history = (n : ℕ) (x : Happening) → slice_get history n ≡ Some x → Meets x (target_at history n)

-- a miss that the pager has not taken is a record of the log
abbrev pub IsRecorded : List GuestRec → UntakenMiss → Type 0
IsRecorded log missing = slice_get log missing.number ≡ Some (Miss missing.vcpu missing.page)

-- a book's state is this target's, with its frames on the resident pages
pub record Holds (t : Target) (book : TargetPart) : Type 0 where
  pub placed : t.placed ≡ book.placed
  pub freed : t.freed ≡ book.freed
  pub memory : (page cell : ℕ) → is_resident (book.placed page) (book.freed page) ≡ true → t.memory page cell ≡ book.memory page cell
  pub frontier : t.frontier ≡ book.frontier
  pub is_resumed : t.is_resumed ≡ book.is_resumed

-- the history of a book: the book's log has the history's records, and the book's state is that after the history
pub record IsHistoryOf (book : TargetPart) (history : List Happening) : Type 0 where
  pub demands : IsHistory history
  pub log : guest_part history ≡ book.log
  pub holds : Holds (target_at history (length history)) book
  pub misses : AllByRecursion (IsRecorded book.log) book.misses

-- a record of the guest before its halt, within a machine of this extent
abbrev pub IsBeforeHalt : Extent → GuestRec → Type 0
IsBeforeHalt e (Read vcpu page cell value) = (page < e.pages) × (cell < e.cells)
IsBeforeHalt e (Write vcpu page cell value) = (page < e.pages) × (cell < e.cells)
IsBeforeHalt e (Release vcpu page) = page < e.pages
IsBeforeHalt e _ = ⊥
