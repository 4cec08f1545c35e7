-- The text of fields, one by one.
use Rattle.std.proofs.Common.{◌≡◌, List, [], ◌∷◌, ◌++◌, None, refl, sym, ap, ℕ}
use Rattle.std.proofs.lemmas.List.{append-nil}
use Rattle.std.specs.Fmt.{decimal}
use Rattle.migration_types.specs.declared.rows.Field.{Field}
use Rattle.migration_types.specs.Rows.{field_number}
use Rattle.session_log.specs.Rows.{fields_text}

-- a field, and those behind it
pub first_text : (f : Field) (fs : List Field) → fields_text (f ∷ fs) None ≡ 32 ∷ (decimal (field_number f) ++ fields_text fs None)
first_text f [] = ap (λ (t : List ℕ). 32 ∷ t) (sym (append-nil (decimal (field_number f))))
first_text f (g ∷ fs) = refl
