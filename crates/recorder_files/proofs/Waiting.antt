-- Files that wait for their turn.
use Rattle.std.proofs.Common.{◌≡◌, ℕ, zero, suc, ◌<◌, inl, inr, Bool, false, not, eqb, nat_eq, IsTrue, List, [], ◌∷◌, length, set, slice_get, Option, Some, refl, sym, ap, subst, ◌∙◌, arith, IsPermutation}
use Rattle.std.specs.List.{Contains}
use Rattle.std.specs.Option.{option_eq}
use Rattle.std.proofs.lemmas.Bool.{eq-eqb}
use Rattle.std.specs.declared.cmp.Reverse.{Reverse}
use Rattle.std.proofs.lemmas.List.Sorted.{Contains-permutation}
use Rattle.recorder_files.specs.Gathered.{Has}
use Rattle.recorder_files.specs.declared.turns.Turns.{Turns}
use Rattle.recorder_files.specs.declared.turns.Waiting.{Waiting}
use Rattle.recorder_files.specs.inner.Turns.{AreKept, AreTurns, IsPlaced, IsQueued, Waits}

behind : {X : Type 0} (e x : X) (xs : List X) → Contains xs x → Contains (e ∷ xs) x
behind e x xs c = (suc c.0, omega (arith, c.1), c.2)

in_front : {X : Type 0} (e : X) (xs : List X) → Contains (e ∷ xs) e
in_front e xs = (0, omega arith, refl)

pub queued_on : (xs ys : List (Reverse (ℕ × ℕ))) (e : Reverse (ℕ × ℕ)) → IsPermutation (e ∷ xs) ys → (n j : ℕ) → IsQueued xs n j → IsQueued ys n j
queued_on xs ys e p n j w = (w.0, Contains-permutation (e ∷ xs) ys w.0 p (behind e w.0 xs w.1), w.2, w.3)

pub queued_now : (xs ys : List (Reverse (ℕ × ℕ))) (e : Reverse (ℕ × ℕ)) (n j : ℕ) → IsPermutation (e ∷ xs) ys → e.0.0 ≡ n → e.0.1 ≡ j → IsQueued ys n j
queued_now xs ys e n j p en ej = (e, Contains-permutation (e ∷ xs) ys e p (in_front e xs), en, ej)

-- whatever file is taken out of the heap, the others are left in it
pub others_stay : (xs ys : List (Reverse (ℕ × ℕ))) (e : Reverse (ℕ × ℕ)) → IsPermutation xs (e ∷ ys) → (n j : ℕ) → (j ≡ e.0.1 → ⊥) → IsQueued xs n j → IsQueued ys n j
others_stay xs ys e p n j other w = go (Contains-permutation xs (e ∷ ys) w.0 p w.1)
  where
    go : Contains (e ∷ ys) w.0 → IsQueued ys n j
    go (zero, lt, is) = absurd (other (sym w.3 ∙ ap (λ (x : Reverse (ℕ × ℕ)). x.0.1) (sym is)))
    go (suc k, lt, is) = (w.0, (k, omega (arith, lt), is), w.2, w.3)

-- a file stays at its place, if another that is there is replaced
pub placed_on : (table : List ℕ) (place k old new j : ℕ) → slice_get table place ≡ Some old → (j ≡ old → ⊥) → slice_get table k ≡ Some j → slice_get (set table place new) k ≡ Some j
placed_on [] place k old new j is other at = absurd (cc)
placed_on (x ∷ table) zero zero old new j is other at = absurd (other (cc))
placed_on (x ∷ table) zero (suc k) old new j is other at = at
placed_on (x ∷ table) (suc place) zero old new j is other at = at
placed_on (x ∷ table) (suc place) (suc k) old new j is other at = placed_on table place k old new j is other at

pub placed_now : (table : List ℕ) (place new : ℕ) → place < length table → slice_get (set table place new) place ≡ Some new
placed_now [] place new lt = absurd (omega (arith, lt))
placed_now (x ∷ table) zero new lt = refl
placed_now (x ∷ table) (suc place) new lt = placed_now table place new (omega (arith, lt))

pub other_head : (n : ℕ) (head : Option ℕ) (ne : Bool) → ne ≡ not (option_eq nat_eq head (Some n)) → IsTrue ne → head ≡ Some n → ⊥
other_head n head ne is true_ne same =
    let one : ne ≡ not (option_eq nat_eq (Some n) (Some n)) = subst (λ (o : Option ℕ). ne ≡ not (option_eq nat_eq o (Some n))) same is in
    let two : not (eqb n n) ≡ false = ap not (eq-eqb n n refl) in
    grind (arith, one, two, true_ne)

-- none has a number, if each in the queue has a greater one, and the file at its place has another
pub none_waits : (w : Waiting) (heads : List (Option ℕ)) (n file : ℕ) → AreKept w → n < w.queued → ((j : ℕ) → IsPlaced w n j → j ≡ file) → (Has heads file n → ⊥) → (j : ℕ) → Has heads j n → Waits w n j → ⊥
none_waits w heads n file kept lt at none j has (inl placed) = none (subst (λ i. Has heads i n) (at j placed) has)
none_waits w heads n file kept lt at none j has (inr queued) = let le = kept.least n j queued in absurd (omega (arith, le, lt))

-- the file whose turn it was is read on
pub read_on : (was now : List (Option ℕ)) (t : Turns) → ((j n : ℕ) → Has now j n → (j ≡ t.last → ⊥) → Has was j n) → AreTurns was t → AreTurns now t
read_on was now t kept are = record { kept = are.kept; wait = λ j n has other. are.wait j n (kept j n has other) other }
