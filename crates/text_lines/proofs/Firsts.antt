-- A line in front of others.
use Rattle.std.proofs.Common.{◌≡◌, ℕ, ◌≤◌, List, [], ◌∷◌, ◌++◌, length, take, sym, ap, ◌∙◌, length-append, arith}
use Rattle.std.proofs.lemmas.List.{take-append-le, take_at, take-append-drop}
use Rattle.std.proofs.Math.ListN.{drop}
use Rattle.std.specs.Prelude.{Result, Ok, Err, OnOk, IfErr}

-- the first lines of those that begin with one line more
pub front_less : {X : Type 0} (xs new : List X) (x : X) (n k : ℕ) → take k new ≡ xs ++ x ∷ [] → n ≡ length xs → take n new ≡ xs
front_less {X} xs new x n k e same =
    let whole : new ≡ (xs ++ x ∷ []) ++ drop k new = sym (take-append-drop k new) ∙ ap (λ (t : List X). t ++ drop k new) e in
    let fits : n ≤ length (xs ++ x ∷ []) = omega (arith, length-append xs (x ∷ [])) in
    ap (take n) whole ∙ (take-append-le n (xs ++ x ∷ []) (drop k new) fits ∙ take_at xs (x ∷ []) n (sym same))

pub on_ok : {V E : Type 0} (r : Result V E) (P Q : Type 0) → (P → Q) → OnOk r P → OnOk r Q
on_ok (Ok v) P Q f h = f h
on_ok (Err e) P Q f h = tt

pub if_err : {V E : Type 0} (r : Result V E) (P Q : E → Type 0) → ((e : E) → P e → Q e) → IfErr r P → IfErr r Q
if_err (Ok v) P Q f h = tt
if_err (Err e) P Q f h = f e h
