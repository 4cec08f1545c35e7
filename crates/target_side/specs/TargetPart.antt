-- The target's book from the halt on, and its part of each event.
use Rattle.std.specs.Prelude.{ℕ, Bool, true, false, List, [], ◌∷◌, ◌++◌, length, Option, Some, None, if◌then◌else◌}
use Rattle.migration_types.specs.declared.records.GuestRec.{GuestRec}
use Rattle.migration_types.specs.declared.records.GuestRec.TheVariants.{Read, Write, Release, Miss, Halt, Resume, See}
use Rattle.migration_types.specs.Memory.{Memory, zeros, with_cell, with_content, with_zeros}
use Rattle.migration_types.specs.PageSets.{Pages, no_page, with_page, without_page}
use Rattle.residency.specs.Placements.{Placements, no_placement, with_placement, is_covered}
use Rattle.migration_events.specs.Ops.{page_in, answer_of}
use Rattle.migration_events.specs.declared.ops.Op.{Op}
use Rattle.migration_events.specs.declared.ops.Op.TheVariants.{Read as ReadCell, Write as WriteCell, Release as ReleasePage}
use Rattle.target_side.specs.declared.access.UntakenMiss.{UntakenMiss}
use Rattle.target_side.specs.declared.access.Access.{Access}
use Rattle.target_side.specs.declared.access.Access.TheVariants.{Done, Missed, Waiting}

-- The guest's log, whether the guest runs at the target, the target's memory, the placed pages, those that were absent
-- when the guest released them, the greatest placement that was seen, the misses that the pager has not taken, the
-- virtual processors with a pending miss, and the pages released while absent that the pager has not cancelled.
pub record TargetPart : Type 0 where
  pub log : List GuestRec
  pub is_resumed : Bool
  pub memory : Memory
  pub placed : Placements
  pub freed : Pages
  pub frontier : Option ℕ
  pub misses : List UntakenMiss
  pub standing : Pages
  pub unsettled : List ℕ

-- the book after the halt, with the guest's log until then
abbrev pub halted_target : List GuestRec → TargetPart
halted_target log = record {
  log = log ++ Halt ∷ [];
  is_resumed = false;
  memory = zeros;
  placed = no_placement;
  freed = no_page;
  frontier = None;
  misses = [];
  standing = no_page;
  unsettled = [];
}

pub record Accessed : Type 0 where
  pub book : TargetPart
  pub access : Access

-- a look at the page's placement, if the frontier does not cover it
abbrev pub looks : ℕ → TargetPart → TargetPart
looks k b = if is_covered (Some k) b.frontier then b else record b { log = b.log ++ See k ∷ []; frontier = Some k }

-- the operation itself
abbrev pub does : ℕ → Op → TargetPart → TargetPart
does v (ReadCell p c) b = record b { log = b.log ++ Read v p c (b.memory p c) ∷ [] }
does v (WriteCell p c x) b = record b { log = b.log ++ Write v p c x ∷ []; memory = with_cell p c x b.memory }
does v (ReleasePage p) b = record b { log = b.log ++ Release v p ∷ []; memory = with_zeros p b.memory }

-- a miss, unless one is pending
abbrev pub misses_page : ℕ → ℕ → TargetPart → Accessed
misses_page v p b =
    if b.standing v
    then record { book = b; access = Waiting }
    else record {
      book = record b {
        log = b.log ++ Miss v p ∷ [];
        misses = b.misses ++ (record { number = length b.log; vcpu = v; page = p }) ∷ [];
        standing = with_page v b.standing;
      };
      access = Missed;
    }

-- an absent page that is released is resident from then on, and the pager must cancel it
abbrev pub frees : ℕ → TargetPart → TargetPart
frees p b = record b { freed = with_page p b.freed; unsettled = b.unsettled ++ p ∷ [] }

-- the operation is carried out after a change, and the virtual processor then has no pending miss
abbrev pub done_over : (TargetPart → TargetPart) → ℕ → Op → TargetPart → Accessed
done_over change v op b = record {
  book = does v op (change (record b { standing = without_page v b.standing }));
  access = Done (answer_of op b.memory);
}

-- an operation on an absent page: a read or a write misses it, and a release makes it resident
abbrev pub lacks : ℕ → Op → TargetPart → Accessed
lacks v (ReadCell p c) b = misses_page v p b
lacks v (WriteCell p c x) b = misses_page v p b
lacks v (ReleasePage p) b = done_over (frees p) v (ReleasePage p) b

-- an operation, given the page's placement, and whether the page was absent and released
abbrev pub accesses : ℕ → Op → Option ℕ → Bool → TargetPart → Accessed
accesses v op (Some k) is_freed b = done_over (looks k) v op b
accesses v op None true b = done_over (λ c. c) v op b
accesses v op None false b = lacks v op b

-- an operation at the target
abbrev pub target_access : ℕ → Op → TargetPart → Accessed
target_access v op b = if b.is_resumed then accesses v op (b.placed (page_in op)) (b.freed (page_in op)) b else record { book = b; access = Waiting }

-- the guest runs at the target
abbrev pub resumes : TargetPart → TargetPart
resumes b = record b { log = b.log ++ Resume 1 ∷ []; is_resumed = true }

-- the pager's record of this number places a page, with this content or as zeros
abbrev pub with_placed : ℕ → ℕ → List ℕ → TargetPart → TargetPart
with_placed page number content b = record b { memory = with_content page content b.memory; placed = with_placement page number b.placed }

abbrev pub with_zeroed : ℕ → ℕ → TargetPart → TargetPart
with_zeroed page number b = record b { memory = with_zeros page b.memory; placed = with_placement page number b.placed }

-- these misses are still to be taken
abbrev pub with_misses : List UntakenMiss → TargetPart → TargetPart
with_misses misses b = record b { misses = misses }

-- the pager has cancelled all pages that were absent when they were released
abbrev pub settled : TargetPart → TargetPart
settled b = record b { unsettled = [] }
