-- What contracts see of the target's book.
use Rattle.std.specs.Prelude.{◌≡◌, ℕ, Bool, false, ◌<◌, ◌≤◌, List, ◌++◌, length, map, slice_index_or}
use Rattle.std.specs.List.{AllByRecursion}
use Rattle.migration_types.specs.declared.records.GuestRec.{GuestRec}
use Rattle.migration_types.specs.Extents.{Extent}
use Rattle.migration_types.specs.Limits.{most_records}
use Rattle.migration_types.specs.PageSets.{Pages}
use Rattle.page_store.specs.Frames.{Frames, memory_of}
use Rattle.residency.specs.Placements.{Places, placements, freed}
use Rattle.target_side.specs.declared.access.UntakenMiss.{UntakenMiss}
use Rattle.target_side.specs.TargetPart.{TargetPart}
use Rattle.target_side.specs.History.{Happening, Did}

-- the state of the target: the lists of the part, and its functions as lists
pub record Held : Type 0 where
  pub log : List GuestRec
  pub is_resumed : Bool
  pub frames : Frames
  pub places : Places
  pub misses : List UntakenMiss
  pub standing : List Bool
  pub unsettled : List ℕ

-- the virtual processors whose mark is set
abbrev pub marked : List Bool → Pages
marked marks vcpu = slice_index_or marks vcpu false

abbrev pub part_held : Held → TargetPart
part_held h = record {
  log = h.log;
  is_resumed = h.is_resumed;
  memory = memory_of h.frames;
  placed = placements h.places;
  freed = freed h.places;
  frontier = h.places.frontier;
  misses = h.misses;
  standing = marked h.standing;
  unsettled = h.unsettled;
}

-- the book: the state of the target, and its history
pub record Kept : Type 0 where
  pub held : Held
  pub history : List Happening

abbrev pub part_of : Kept → TargetPart
part_of k = part_held k.held

abbrev pub geometry_of : Kept → Extent
geometry_of k = k.held.frames.geometry

-- the log and the history have each grown by these records of the guest
pub record HaveGrown (old new : Kept) : Type 0 where
  pub records : List GuestRec
  pub log : new.held.log ≡ old.held.log ++ records
  pub history : new.history ≡ old.history ++ map Did records

-- the frames, residency, marks, misses and pages are of one machine, and the log is within its limit
pub record IsSized (e : Extent) (h : Held) : Type 0 where
  pub few : length h.log ≤ most_records
  pub frames : h.frames.geometry ≡ e
  pub places : h.places.geometry ≡ e
  pub marks : length h.standing ≡ 256
  pub misses : AllByRecursion (λ m. m.page < e.pages) h.misses
  pub unsettled : AllByRecursion (λ p. p < e.pages) h.unsettled
