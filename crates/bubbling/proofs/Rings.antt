-- A page that becomes the newest pivot.
use Rattle.std.proofs.Common.{◌≡◌, ◌≢◌, ℕ, zero, suc, ◌-◌, ◌<◌, ◌≤◌, List, ◌∷◌, length, take, get_or, min, sym, ap, ◌∙◌, arith}
use Rattle.std.specs.List.{Contains}
use Rattle.std.proofs.lemmas.List.{length-take, get_or-take, get_or_default}
use Rattle.bubbling.specs.Bubbling.{Ring, IsRing, AreDistinct, faulted}

abbrev pub ring : ℕ → List ℕ → ℕ → Ring
ring most pivots turn = record { most = most; pivots = pivots; turn = turn }

-- the newest pivot and those that stay behind it
pub newest : (most page : ℕ) (pivots : List ℕ) → 1 ≤ most → page ∷ take (most - 1) pivots ≡ take most (page ∷ pivots)
newest zero page pivots some = absurd (omega arith)
newest (suc m) page pivots some = ap (λ (k : ℕ). page ∷ take k pivots) (let e : suc m - 1 ≡ m = omega arith in e)

with_newest : (page : ℕ) (pivots : List ℕ) → (Contains pivots page → ⊥) → AreDistinct pivots → AreDistinct (page ∷ pivots)
with_newest page pivots new distinct j zero less in_list = absurd (omega arith)
with_newest page pivots new distinct zero (suc k) less in_list = λ same.
    let inside : k < length pivots = omega arith in
    new (k, inside, get_or_default pivots k page 0 inside ∙ sym same)
with_newest page pivots new distinct (suc j) (suc k) less in_list = distinct j k (omega arith) (omega arith)

still_distinct : (n : ℕ) (pivots : List ℕ) → AreDistinct pivots → AreDistinct (take n pivots)
still_distinct n pivots distinct = λ j k less in_list.
    let short : length (take n pivots) ≡ min n (length pivots) = length-take n pivots in
    let first : get_or (take n pivots) j 0 ≡ get_or pivots j 0 = get_or-take n pivots j 0 (omega arith) in
    let second : get_or (take n pivots) k 0 ≡ get_or pivots k 0 = get_or-take n pivots k 0 (omega arith) in
    let differs : get_or pivots j 0 ≢ get_or pivots k 0 = distinct j k less (omega arith) in
    λ same. differs (sym first ∙ same ∙ second)

pub still_ring : (r : Ring) (page : ℕ) → IsRing r → (Contains r.pivots page → ⊥) → IsRing (faulted page r)
still_ring r page is new = record {
  some = omega (arith, short, is.most, is.some, is.few);
  few = omega (arith, short);
  most = is.most;
  distinct = still_distinct r.most (page ∷ r.pivots) (with_newest page r.pivots new is.distinct);
  turn = omega (arith, short, is.most, is.some, is.few);
}
  where
    short : length (take r.most (page ∷ r.pivots)) ≡ min r.most (suc (length r.pivots))
    short = length-take r.most (page ∷ r.pivots)
