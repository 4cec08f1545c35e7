-- The guest's book before the halt, and its part of each event.
use Rattle.std.specs.Prelude.{ℕ, List, [], ◌∷◌, ◌++◌}
use Rattle.migration_types.specs.declared.pages.InitPage.{InitPage}
use Rattle.migration_types.specs.declared.records.GuestRec.{GuestRec}
use Rattle.migration_types.specs.declared.records.GuestRec.TheVariants.{Read, Write, Release}
use Rattle.migration_types.specs.Extents.{Extent}
use Rattle.migration_types.specs.Memory.{Memory, with_cell, with_zeros, initial}
use Rattle.migration_types.specs.PageSets.{Pages, no_page, with_page, without_page}
use Rattle.migration_events.specs.declared.ops.Op.{Op}
use Rattle.migration_events.specs.declared.ops.Op.TheVariants.{Read as ReadCell, Write as WriteCell, Release as ReleasePage}

-- the machine, the guest's log, and the released pages
pub record GuestPart : Type 0 where
  pub geometry : Extent
  pub log : List GuestRec
  pub memory : Memory
  pub ledger : Pages

abbrev pub new_guest : Extent → List InitPage → GuestPart
new_guest geometry init = record { geometry = geometry; log = []; memory = initial init; ledger = no_page }

-- an operation of a virtual processor at the source
abbrev pub guest_access : ℕ → Op → GuestPart → GuestPart
guest_access v (ReadCell p c) b = record b { log = b.log ++ Read v p c (b.memory p c) ∷ [] }
guest_access v (WriteCell p c x) b = record b {
  log = b.log ++ Write v p c x ∷ [];
  memory = with_cell p c x b.memory;
  ledger = without_page p b.ledger;
}
guest_access v (ReleasePage p) b = record b {
  log = b.log ++ Release v p ∷ [];
  memory = with_zeros p b.memory;
  ledger = with_page p b.ledger;
}
