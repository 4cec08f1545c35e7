-- What is there if an option is none.
use Rattle.std.proofs.Common.{◌≡◌, Option, Some, None, MatchOption, refl}

-- where there is no value, what holds of none does
pub none_of : {A P : Type 0} (Q : A → Type 0) (o : Option A) → MatchOption o P Q → ((x : A) → o ≡ Some x → ⊥) → P
none_of Q None h never = h
none_of Q (Some x) h never = absurd (never x refl)
