-- A guest that runs after its halt, and has no resume.
use Rattle.std.specs.Prelude.{◌≡◌, ℕ, ◌≤◌, Bool, false, List, [], ◌∷◌, Option, Some, None, slice_get}
use Rattle.std.specs.List.{list_any}
use Rattle.migration_types.specs.declared.records.GuestRec.{GuestRec}
use Rattle.migration_types.specs.declared.records.GuestRec.TheVariants.{Halt}
use Rattle.audit_model.specs.Shape.{is_halt, is_resume}

-- the guest halts here, and nowhere before
pub record IsFirstHalt (guest : List GuestRec) (n : ℕ) : Type 0 where
  pub there : slice_get guest n ≡ Some Halt
  pub first : (m : ℕ) → slice_get guest m ≡ Some Halt → n ≤ m

-- the guest's first halt, if there is one
abbrev pub IsHaltOf : Option ℕ → List GuestRec → Type 0
IsHaltOf None guest = (n : ℕ) → slice_get guest n ≡ Some Halt → ⊥
IsHaltOf (Some n) guest = IsFirstHalt guest n

-- the guest's last record is a halt
abbrev pub ends_halted : List GuestRec → Bool
ends_halted [] = false
ends_halted (rec ∷ []) = is_halt rec
ends_halted (rec ∷ next ∷ records) = ends_halted (next ∷ records)

-- The guest's first halt is here. Its last record is no halt, and it has no resume.
pub record GoesUnresumed (guest : List GuestRec) (halt : ℕ) : Type 0 where
  pub halts : IsFirstHalt guest halt
  pub goes_on : ends_halted guest ≡ false
  pub no_resume : list_any is_resume guest ≡ false

-- the guest has no such halt
abbrev pub NeverUnresumed : List GuestRec → Type 0
NeverUnresumed guest = (halt : ℕ) → GoesUnresumed guest halt → ⊥
