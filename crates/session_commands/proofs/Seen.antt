-- What is known of a recording before its text is written.
use Rattle.std.proofs.Common.{◌≡◌, ◌++◌, List, [], ◌∷◌, length, refl, arith}
use Rattle.migration_types.specs.declared.records.GuestRec.{GuestRec}
use Rattle.migration_types.specs.declared.records.SourceRec.{SourceRec}
use Rattle.session_commands.specs.Unresumed.{ends_halted}
use Rattle.audit_model.specs.Shape.{is_halt}
use Rattle.session_commands.specs.Written.{begins_halted, is_halted}

-- the source's first record is the one that came first
pub halted_first : (records : List SourceRec) (rec : SourceRec) → length records ≡ 0 → begins_halted (records ++ rec ∷ []) ≡ is_halted rec
halted_first [] rec none = refl
halted_first (first ∷ records) rec none = absurd (omega arith)

pub halted_later : (records : List SourceRec) (rec : SourceRec) → (length records ≡ 0 → ⊥) → begins_halted (records ++ rec ∷ []) ≡ begins_halted records
halted_later [] rec some = absurd (some refl)
halted_later (first ∷ records) rec some = refl

-- the guest's last record is the one that came last
pub ends_last : (guest : List GuestRec) (rec : GuestRec) → ends_halted (guest ++ rec ∷ []) ≡ is_halt rec
ends_last [] rec = refl
ends_last (first ∷ []) rec = refl
ends_last (first ∷ next ∷ records) rec = ends_last (next ∷ records) rec
