-- What items give, one item after the other.
use Rattle.std.proofs.Common.{◌≡◌, ◌∙◌, ℕ, ◌+◌, ◌<◌, List, [], ◌∷◌, ◌++◌, length, map, take, get_or, sym, ap}
use Rattle.std.specs.List.{flat_map}
use Rattle.std.proofs.lemmas.List.{append_assoc, flat_map_more, map_more, take_more}

-- what the item at a place gives was added after what those before it give
pub next_added : {X A : Type 0} (gives : X → List A) (old now new : List A) (xs : List X) (i : ℕ) (x : X) → i < length xs → x ≡ get_or xs i x → now ≡ old ++ flat_map gives (take i xs) → new ≡ now ++ gives x → new ≡ old ++ flat_map gives (take (i + 1) xs)
next_added {X} {A} gives old now new xs i x lt is so_far added =
    added
    ∙ ap (λ (t : List A). t ++ gives x) so_far
    ∙ flat_map_more gives old (take i xs) x
    ∙ ap (λ (ys : List X). old ++ flat_map gives ys) (ap (λ (y : X). take i xs ++ y ∷ []) is ∙ sym (take_more xs i x lt))

-- an item's image was added after those of the items before it
pub next_mapped : {X A : Type 0} (f : X → A) (old now new : List A) (xs : List X) (i : ℕ) (x : X) → i < length xs → x ≡ get_or xs i x → now ≡ old ++ map f (take i xs) → new ≡ now ++ f x ∷ [] → new ≡ old ++ map f (take (i + 1) xs)
next_mapped {X} {A} f old now new xs i x lt is so_far added =
    added
    ∙ ap (λ (t : List A). t ++ f x ∷ []) so_far
    ∙ append_assoc old (map f (take i xs)) (f x ∷ [])
    ∙ ap (λ (t : List A). old ++ t) (ap (λ (y : X). map f (take i xs) ++ f y ∷ []) is ∙ sym (map_more f xs i x lt))
