-- The flat machine at the next record.
use Rattle.std.proofs.Common.{◌≡◌, ℕ, suc, Some, sym, ap, ◌∙◌}
use Rattle.std.specs.Prelude.{slice_get}
use Rattle.migration_types.specs.declared.records.GuestRec.{GuestRec}
use Rattle.migration_types.specs.Extents.{Extent}
use Rattle.migration_types.specs.Memory.{Memory}
use Rattle.migration_types.specs.PageSets.{Pages}
use Rattle.migration_types.specs.Sessions.{Recorded}
use Rattle.audit_model.specs.Flat.{changed, cell_after, released_after, flat, in_ledger}
use Rattle.flat_machine.specs.declared.machine.Machine.{Machine}
use Rattle.flat_machine.specs.Machines.{IsSized, IsWith, IsAfter, IsFlat, memory_after, ledger_after}

pub sized_on : (e : Extent) (old new : Machine) (memory : Memory) (pages : Pages) → IsSized e old → IsWith old new memory pages → IsSized e new
sized_on e old new memory pages sized on = record {
  frames = on.frames.geometry ∙ sized.frames;
  ledger = on.ledger.geometry ∙ sized.ledger;
}

pub memory_next : (s : Recorded) (n : ℕ) (r : GuestRec) → slice_get s.guest n ≡ Some r → memory_after r (flat s n) ≡ flat s (suc n)
memory_next s n r is = λ i p c. cell p c i
  where
    cell : (p c : ℕ) → memory_after r (flat s n) p c ≡ flat s (suc n) p c
    cell p c = ap (λ o. changed (cell_after p c) o (flat s n p c)) (sym is)

pub ledger_next : (s : Recorded) (n : ℕ) (r : GuestRec) → slice_get s.guest n ≡ Some r → ledger_after r (in_ledger s n) ≡ in_ledger s (suc n)
ledger_next s n r is = λ i p. page p i
  where
    page : (p : ℕ) → ledger_after r (in_ledger s n) p ≡ in_ledger s (suc n) p
    page p = ap (λ o. changed (released_after p) o (in_ledger s n p)) (sym is)

pub flat_next : (s : Recorded) (n : ℕ) (r : GuestRec) (old new : Machine) → slice_get s.guest n ≡ Some r → IsFlat s n old → IsAfter r old new → IsFlat s (suc n) new
flat_next s n r old new is was on = record {
  sized = sized_on s.geometry old new _ _ was.sized on;
  memory = on.frames.memory_is ∙ ap (λ (m : Memory). memory_after r m) was.memory ∙ memory_next s n r is;
  ledger = on.ledger.set_is ∙ ap (λ (l : Pages). ledger_after r l) was.ledger ∙ ledger_next s n r is;
}
