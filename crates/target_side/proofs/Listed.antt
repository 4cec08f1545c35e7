-- Marks of the pages of a list.
use Rattle.std.proofs.Common.{◌≡◌, ℕ, ◌+◌, ◌<◌, Bool, true, false, cond, ◌||◌, List, length, take, sym, refl, ap, ◌∙◌}
use Rattle.std.specs.Prelude.{◌==◌, slice_index_or}
use Rattle.std.proofs.lemmas.List.Folds.{list_any_more}
use Rattle.page_store.specs.Tables.{all_at, with_value}
use Rattle.target_side.specs.PagerPart.{is_listed}

either : (c a s : Bool) → cond c true (a || s) ≡ ((a || c) || s)
either true true s = refl
either true false s = refl
either false true s = refl
either false false s = refl

-- one page more
pub marked_more : (xs : List ℕ) (was : ℕ → Bool) (i x : ℕ) → i < length xs → x ≡ slice_index_or xs i x → with_value x true (λ q. is_listed q (take i xs) || was q) ≡ (λ q. is_listed q (take (i + 1) xs) || was q)
marked_more xs was i x lt is = λ j q. each q j
  where
    each : (q : ℕ) → cond (x == q) true (is_listed q (take i xs) || was q) ≡ (is_listed q (take (i + 1) xs) || was q)
    each q =
        either (x == q) (is_listed q (take i xs)) (was q)
        ∙ ap (λ (y : ℕ). (is_listed q (take i xs) || (y == q)) || was q) is
        ∙ ap (λ b. b || was q) (sym (list_any_more (λ y. y == q) xs i x lt))

-- in a table that had no marks
pub marked_alone : (xs : List ℕ) (was : ℕ → Bool) → was ≡ all_at false → ◌≡◌ {A = ℕ → Bool} (λ q. is_listed q xs || was q) (λ q. is_listed q xs)
marked_alone xs was none = λ j q. (ap (λ (at : ℕ → Bool). is_listed q xs || at q) none ∙ or_none (is_listed q xs)) j
  where
    or_none : (a : Bool) → (a || false) ≡ a
    or_none true = refl
    or_none false = refl
