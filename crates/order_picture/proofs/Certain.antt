-- Rows that are certain, and how many there are.
use Rattle.std.proofs.Common.{◌≡◌, ℕ, ◌+◌, ◌*◌, ◌≤◌, ◌||◌, Bool, true, false, cond, List, [], ◌∷◌, ◌++◌, Option, Some, None, refl, ap, ◌∙◌, arith}
use Rattle.std.specs.Prelude.{nat_lt}
use Rattle.std.proofs.lemmas.Bool.Decides.{nat_tests}
use Rattle.std.proofs.lemmas.List.{append_assoc}
use Rattle.std.proofs.lemmas.List.Folds.{list_any-append}
use Rattle.migration_types.specs.Receipts.{Name}
use Rattle.order_picture.specs.declared.picture.PictureRow.{PictureRow}
use Rattle.order_picture.specs.declared.picture.PictureRow.TheVariants.{Fold}
use Rattle.order_picture.specs.declared.rows.Building.{Building}
use Rattle.order_picture.specs.Rows.{has_row, is_at, is_certain, is_next_to, is_row_of}
use Rattle.order_picture.specs.inner.Built.{Extends, at_left, certain_left, closed_rows, next_left}

-- what came since the last row, and more, stands behind the rows
pub closed_extends : (b : Building) (more after : List PictureRow) → after ≡ closed_rows b ++ more → Extends b.rows.items after
closed_extends b more after e = go (nat_lt 0 b.folded) e
  where
    go : (t : Bool) → after ≡ cond t (b.rows.items ++ Fold b.since ∷ []) b.rows.items ++ more → Extends b.rows.items after
    go true e = (Fold b.since ∷ more, e ∙ append_assoc b.rows.items (Fold b.since ∷ []) more)
    go false e = (more, e)

true_or : (x y : Bool) → x ≡ true → (x || y) ≡ true
true_or x y e = ap (λ b. b || y) e

-- a record that has a row still has it
pub still_has : (before after : List PictureRow) (name : Name) → Extends before after → has_row before name ≡ true → has_row after name ≡ true
still_has before after name more has = ap (λ rows. has_row rows name) more.1 ∙ (list_any-append (is_row_of name) before more.0 ∙ true_or (has_row before name) (has_row more.0 name) has)

next_falls : (fault : Option ℕ) (n : ℕ) → next_left fault (n + 1) ≤ next_left fault n
next_falls None n = omega arith
next_falls (Some at) n = grind (arith, nat_tests)

at_falls : (at : Option ℕ) (n : ℕ) → at_left at (n + 1) ≤ at_left at n
at_falls None n = omega arith
at_falls (Some at) n = grind (arith, nat_tests)

next_spends : (fault : Option ℕ) (n : ℕ) → is_next_to fault n ≡ true → next_left fault (n + 1) + 1 ≤ next_left fault n
next_spends None n e = absurd (cc)
next_spends (Some at) n e = grind (arith, nat_tests)

at_spends : (at : Option ℕ) (n : ℕ) → is_at at n ≡ true → at_left at (n + 1) + 1 ≤ at_left at n
at_spends None n e = absurd (cc)
at_spends (Some at) n e = grind (arith, nat_tests)

-- after a place, fewer places are certain where that one was
pub spends : (fault cause against : Option ℕ) (n : ℕ) → 2 * certain_left fault cause against (n + 1) + cond (is_certain fault cause against n) 2 0 ≤ 2 * certain_left fault cause against n
spends fault cause against n = go (is_next_to fault n) (is_at cause n) (is_at against n) refl refl refl
  where
    go : (a b c : Bool) → is_next_to fault n ≡ a → is_at cause n ≡ b → is_at against n ≡ c → 2 * certain_left fault cause against (n + 1) + cond (a || (b || c)) 2 0 ≤ 2 * certain_left fault cause against n
    go true b c e f g = let h = next_spends fault n e in let k = at_falls cause n in let l = at_falls against n in omega (arith, h, k, l)
    go false true c e f g = let h = next_falls fault n in let k = at_spends cause n f in let l = at_falls against n in omega (arith, h, k, l)
    go false false true e f g = let h = next_falls fault n in let k = at_falls cause n in let l = at_spends against n g in omega (arith, h, k, l)
    go false false false e f g = let h = next_falls fault n in let k = at_falls cause n in let l = at_falls against n in omega (arith, h, k, l)
