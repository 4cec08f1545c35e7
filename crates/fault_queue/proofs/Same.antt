-- Pages are equal where their numbers are.
use Rattle.std.proofs.Common.{◌≡◌, ◌⊎◌, inl, inr, ℕ, Bool, true, false, ◌&&◌, sym, ap, ◌∙◌, arith, eq-eqb}
use Rattle.std.specs.Prelude.{◌==◌}
use Rattle.std.proofs.lemmas.Bool.{cases_Bool, cases_eq, eqb-true, and_from, and_parts, ne_eqb}
use Rattle.migration_types.specs.inner.Bytes.{of_bytes, high_byte, middle_byte, low_byte}
use Rattle.migration_types.specs.contracts.pages.PageNoPartialEq.TheImpl as impl

whole : (n : ℕ) → of_bytes (high_byte n) (middle_byte n) (low_byte n) ≡ n
whole n = omega arith

pub same_page : (a b : ℕ) → (impl.eq-value).it a b ≡ (a == b)
same_page a b = go (cases_eq a b)
  where
    high : Bool
    high = high_byte a == high_byte b

    middle : Bool
    middle = middle_byte a == middle_byte b

    low : Bool
    low = low_byte a == low_byte b

    differs : (a ≡ b → ⊥) → ((high && (middle && low)) ≡ true) ⊎ ((high && (middle && low)) ≡ false) → (high && (middle && low)) ≡ false
    differs other (inl e) =
        let first = and_parts high (middle && low) e in
        let rest = and_parts middle low first.1 in
        let h = eqb-true (high_byte a) (high_byte b) first.0 in
        let m = eqb-true (middle_byte a) (middle_byte b) rest.0 in
        let l = eqb-true (low_byte a) (low_byte b) rest.1 in
        absurd (other (sym (whole a) ∙ (λ i. of_bytes (h i) (m i) (l i)) ∙ whole b))
    differs other (inr e) = e

    go : (a ≡ b) ⊎ (a ≡ b → ⊥) → (high && (middle && low)) ≡ (a == b)
    go (inl same) =
        and_from high (middle && low) (eq-eqb (high_byte a) (high_byte b) (ap high_byte same))
        (and_from middle low (eq-eqb (middle_byte a) (middle_byte b) (ap middle_byte same)) (eq-eqb (low_byte a) (low_byte b) (ap low_byte same)))
        ∙ sym (eq-eqb a b same)
    go (inr other) = differs other (cases_Bool (high && (middle && low))) ∙ sym (ne_eqb a b other)

pub same_pages : (impl.eq-value).it ≡ (λ a b. a == b)
same_pages = λ i a b. same_page a b i
