-- Lists whose items go together place by place, as far as a loop has come.
use Rattle.std.proofs.Common.{ℕ, ◌+◌, ◌<◌, List, [], ◌∷◌, ◌++◌, get_or, length, subst, sym, take}
use Rattle.std.specs.List.{AllZip}
use Rattle.std.proofs.lemmas.List.{take_more}

module _ {A B : Type 0} (R : A → B → Type 0) where
  add : (xs : List A) (ys : List B) (x : A) (y : B) → AllZip R xs ys → R x y → AllZip R (xs ++ x ∷ []) (ys ++ y ∷ [])
  add [] [] x y h r = (r, tt)
  add [] (w ∷ ys) x y h r = absurd h
  add (v ∷ xs) [] x y h r = absurd h
  add (v ∷ xs) (w ∷ ys) x y h r = (h.0, add xs ys x y h.1 r)

  pub next_zipped : (xs : List A) (ys : List B) (i : ℕ) (d : A) (y : B) → i < length xs → AllZip R (take i xs) ys → R (get_or xs i d) y → AllZip R (take (i + 1) xs) (ys ++ y ∷ [])
  next_zipped xs ys i d y lt h r = subst (λ l. AllZip R l (ys ++ y ∷ [])) (sym (take_more xs i d lt)) (add (take i xs) ys (get_or xs i d) y h r)

pub zipped_as : {A B : Type 0} (R S : A → B → Type 0) (xs : List A) (ys : List B) → ((x : A) (y : B) → R x y → S x y) → AllZip R xs ys → AllZip S xs ys
zipped_as R S [] [] f h = tt
zipped_as R S [] (y ∷ ys) f h = absurd h
zipped_as R S (x ∷ xs) [] f h = absurd h
zipped_as R S (x ∷ xs) (y ∷ ys) f h = (f x y h.0, zipped_as R S xs ys f h.1)
