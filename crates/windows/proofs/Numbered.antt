-- The numbers of pages in a window.
use Rattle.std.proofs.Common.{◌≡◌, ℕ, ◌+◌, ◌-◌, ◌<◌, ◌≤◌, ◌⊎◌, inl, inr, Bool, true, false, Some, None, refl, ap, arith}
use Rattle.std.specs.Prelude.{◌&&◌, nat_lt, nat_le, if◌then◌else◌}
use Rattle.std.proofs.lemmas.Bool.Decides.{nat_tests}
use Rattle.audit_model.specs.Windows.{numbers_from, is_seen, new_page}

within : (first count page : ℕ) → first ≤ page → page - first < count → numbers_from first count page ≡ Some (page - first)
within first count page le lt = step (nat_le first page) (nat_lt page (first + count)) (grind (arith, nat_tests)) (grind (arith, nat_tests))
  where
    step : (a b : Bool) → a ≡ true → b ≡ true → (if a && b then Some (page - first) else None) ≡ Some (page - first)
    step a b e f = rw (e, f)

outside : (first count page : ℕ) → (page < first) ⊎ (count ≤ page - first) → numbers_from first count page ≡ None
outside first count page (inl lt) = step (nat_le first page) (nat_lt page (first + count)) (grind (arith, nat_tests))
  where
    step : (a b : Bool) → a ≡ false → (if a && b then Some (page - first) else None) ≡ None
    step a b e = rw e
outside first count page (inr le) = step (nat_le first page) (nat_lt page (first + count)) (both first count page le)
  where
    both : (first count page : ℕ) → count ≤ page - first → (nat_le first page && nat_lt page (first + count)) ≡ false
    both first count page le = grind (arith, nat_tests)

    step : (a b : Bool) → (a && b) ≡ false → (if a && b then Some (page - first) else None) ≡ None
    step a b e = rw e

pub seen_within : (first count page : ℕ) → first ≤ page → page - first < count → is_seen (numbers_from first count page) ≡ true
seen_within first count page le lt = ap is_seen (within first count page le lt)

pub seen_outside : (first count page : ℕ) → (page < first) ⊎ (count ≤ page - first) → is_seen (numbers_from first count page) ≡ false
seen_outside first count page h = ap is_seen (outside first count page h)

pub number_within : (first count page : ℕ) → true ≡ is_seen (numbers_from first count page) → page - first ≡ new_page (numbers_from first count page)
number_within first count page e = go (nat_le first page && nat_lt page (first + count)) e
  where
    go : (b : Bool) → true ≡ is_seen (if b then Some (page - first) else None) → page - first ≡ new_page (if b then Some (page - first) else None)
    go true e = refl
    go false e = absurd (cc)

pub number_outside : (first count page : ℕ) → false ≡ is_seen (numbers_from first count page) → 0 ≡ new_page (numbers_from first count page)
number_outside first count page e = go (nat_le first page && nat_lt page (first + count)) e
  where
    go : (b : Bool) → false ≡ is_seen (if b then Some (page - first) else None) → 0 ≡ new_page (if b then Some (page - first) else None)
    go true e = absurd (cc)
    go false e = refl
