-- One machine that never moved: its memory, and the pages that its guest has released.
use Rattle.std.specs.Prelude.{◌≡◌, ℕ}
use Rattle.migration_types.specs.declared.records.GuestRec.{GuestRec}
use Rattle.migration_types.specs.Extents.{Extent}
use Rattle.migration_types.specs.Memory.{Memory}
use Rattle.migration_types.specs.PageSets.{Pages}
use Rattle.migration_types.specs.Sessions.{Recorded, GuestRecFits}
use Rattle.audit_model.specs.Flat.{cell_after, released_after, flat, in_ledger}
use Rattle.page_store.specs.Frames.{memory_of, IsWith as HasMemory}
use Rattle.balloon_ledger.specs.Released.{released, IsWith as HasReleased}
use Rattle.flat_machine.specs.declared.machine.Machine.{Machine}

-- a machine of this geometry
pub record IsSized (e : Extent) (m : Machine) : Type 0 where
  pub frames : m.frames.geometry ≡ e
  pub ledger : m.ledger.geometry ≡ e

-- the machine has the page and the cell that a record is about
pub record HasFor (r : GuestRec) (m : Machine) : Type 0 where
  pub frames : GuestRecFits m.frames.geometry r
  pub ledger : GuestRecFits m.ledger.geometry r

-- a machine of the same geometry, with this memory and these released pages
pub record IsWith (before after : Machine) (memory : Memory) (pages : Pages) : Type 0 where
  pub frames : HasMemory before.frames after.frames memory
  pub ledger : HasReleased before.ledger after.ledger pages

-- the memory after a record, and the released pages after it
abbrev pub memory_after : GuestRec → Memory → Memory
memory_after r memory page cell = cell_after page cell r (memory page cell)

abbrev pub ledger_after : GuestRec → Pages → Pages
ledger_after r pages page = released_after page r (pages page)

-- the machine after a record
abbrev pub IsAfter : GuestRec → Machine → Machine → Type 0
IsAfter r before after = IsWith before after (memory_after r (memory_of before.frames)) (ledger_after r (released before.ledger))

-- the flat machine of a session before guest record n
pub record IsFlat (s : Recorded) (n : ℕ) (m : Machine) : Type 0 where
  pub sized : IsSized s.geometry m
  pub memory : memory_of m.frames ≡ flat s n
  pub ledger : released m.ledger ≡ in_ledger s n
