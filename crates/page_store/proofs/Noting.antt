-- Marks and numbers that are given to a page.
use Rattle.std.proofs.Common.{◌≡◌, ℕ, Bool, true, false, cond, ◌&&◌, ◌||◌, Option, Some, None, refl, sym, ap, ◌∙◌}
use Rattle.std.specs.Prelude.{◌==◌, is_some}
use Rattle.std.proofs.lemmas.Bool.{eqb-true}
use Rattle.page_store.specs.Tables.{marked_if, or_here, noted, with_value}

-- what is not there
pub none_is : {A : Type 0} (o : Option A) → is_some o ≡ false → o ≡ None
none_is None e = refl
none_is (Some x) e = absurd (cc)

-- where the test fails, nothing is noted
pub noted_none : (o : Option ℕ) (n : ℕ) → or_here o false n ≡ o
noted_none None n = refl
noted_none (Some k) n = refl

-- at a page that has no number, the number that is given is noted
pub noted_is : (page n : ℕ) (at : ℕ → Option ℕ) → at page ≡ None → with_value page (Some n) at ≡ noted page n at
noted_is page n at none = λ i q. each q (page == q) refl i
  where
    each : (q : ℕ) (b : Bool) → (page == q) ≡ b → with_value page (Some n) at q ≡ noted page n at q
    each q true e =
        ap (λ b. cond b (Some n) (at q)) e
        ∙ sym (ap (λ b. or_here (at q) b n) e ∙ ap (λ o. or_here o true n) (sym (ap at (eqb-true page q e)) ∙ none))
    each q false e = ap (λ b. cond b (Some n) (at q)) e ∙ sym (ap (λ b. or_here (at q) b n) e ∙ noted_none (at q) n)

-- a page is marked, or it stays as it was
pub marked_is : (page : ℕ) (at : ℕ → Bool) → with_value page true at ≡ marked_if true page at
marked_is page at = λ i q. each (page == q) (at q) i
  where
    each : (b c : Bool) → cond b true c ≡ ((b && true) || c)
    each true c = refl
    each false c = refl

pub unmarked_is : (page : ℕ) (at : ℕ → Bool) → at ≡ marked_if false page at
unmarked_is page at = λ i q. each (page == q) (at q) i
  where
    each : (b c : Bool) → c ≡ ((b && false) || c)
    each true c = refl
    each false c = refl
