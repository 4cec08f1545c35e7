-- What a loop over a list reads.
use Rattle.std.proofs.Common.{◌≡◌, ℕ, ◌<◌, List, length, get_or, Some, sym, ap, ◌∙◌, subst}
use Rattle.std.specs.Prelude.{slice_get}
use Rattle.std.proofs.lemmas.Option.{slice_get-get_or}

-- what stands at this place of a list stands there in the same list
pub got_at : {A : Type 0} (xs ys : List A) (n : ℕ) (d : A) → xs ≡ ys → n < length ys → slice_get ys n ≡ Some (get_or xs n d)
got_at xs ys n d same lt = subst (λ (zs : List _). slice_get ys n ≡ Some (get_or zs n d)) (sym same) (slice_get-get_or ys n d lt)

-- and so does a value that was read there
pub read_at : {A : Type 0} (xs ys : List A) (n : ℕ) (x : A) → xs ≡ ys → n < length ys → x ≡ get_or xs n x → slice_get ys n ≡ Some x
read_at xs ys n x same lt at = got_at xs ys n x same lt ∙ ap Some (sym at)
