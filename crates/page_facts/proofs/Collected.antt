-- What a chain of parallel work collects of results.
use Rattle.std.proofs.Common.{◌≡◌, List, [], ◌∷◌, map, sym, subst}
use Rattle.std.specs.Prelude.{Ok, Err, IfOk, MatchResult}
use Rattle.std.specs.List.{AllByRecursion, AllZip, Contains}
use Rattle.std.specs.declared.result.Result.{Result}
use Rattle.std.specs.declared.vec.Vec.{Vec}

module _ {X Y : Type 0} (E : Type 0) (P : Y → Type 0) where
  -- values that were all made are as each is where it was made
  all_made : (xs : List X) (ys : List Y) → AllZip (λ (x : X) (r : Result Y E). IfOk r P) xs (map Ok ys) → AllByRecursion P ys
  all_made xs [] made = tt
  all_made [] (y ∷ ys) made = absurd made
  all_made (x ∷ xs) (y ∷ ys) made = (made.0, all_made xs ys made.1)

  -- and so are those that are collected
  pub collected : {Z : Type 0} (xs : List X) (rs : List (Result Y E)) (all : Result (Vec Y Z) E)
      → MatchResult all (λ v. (ys : List Y) × (rs ≡ map Ok ys) × (v.items ≡ ys)) (λ e. Contains rs (Err e))
      → AllZip (λ (x : X) (r : Result Y E). IfOk r P) xs rs → IfOk all (λ v. AllByRecursion P v.items)
  collected xs rs (Ok v) is made = subst (AllByRecursion P) (sym is.2) (all_made xs is.0 (subst (AllZip (λ (x : X) (r : Result Y E). IfOk r P) xs) is.1 made))
  collected xs rs (Err e) is made = tt
