-- The pages that never came, counted.
use Rattle.std.proofs.Common.{◌≡◌, ◌∙◌, ◌<◌, ◌||◌, ℕ, zero, suc, ◌+◌, add-one, length, Bool, true, false, not, cond, refl, ap, sym, arith}
use Rattle.std.specs.List.{list_any}
use Rattle.migration_types.specs.Sessions.{Recorded}
use Rattle.audit_model.specs.Flat.{at_halt, freed, in_ledger}
use Rattle.audit_model.specs.Shape.{is_placement_of}
use Rattle.completeness.specs.Complete.{is_page_left}
use Rattle.completeness.specs.Left.{left_below}
use Rattle.completeness.specs.inner.Least.{NonePass}

came : (a b c : Bool) → b ≡ true → not (a || (b || c)) ≡ false
came true b c e = refl
came false true c e = refl
came false false c e = absurd cc

-- a page that was placed came
pub placed_came : (s : Recorded) (page : ℕ) → list_any (is_placement_of page) s.pager ≡ true → is_page_left s page ≡ false
placed_came s page e = came (in_ledger s (at_halt s) page) (list_any (is_placement_of page) s.pager) (freed s (length s.guest) page) e

-- none of these pages is missing
pub none_left : (s : Recorded) (n : ℕ) → NonePass (is_page_left s) n → left_below s n ≡ 0
none_left s zero none = refl
none_left s (suc n) none =
    ap (λ (b : Bool). cond b (suc (left_below s n)) (left_below s n)) (none n (omega arith)) ∙ none_left s n (λ m lt. none m (omega (arith, lt)))

-- with one page more
pub left_next : (s : Recorded) (n : ℕ) (b : Bool) → is_page_left s n ≡ b → left_below s (n + 1) ≡ cond b (left_below s n + 1) (left_below s n)
left_next s n b e = rw (add-one n, add-one (left_below s n)) (ap (λ (x : Bool). cond x (suc (left_below s n)) (left_below s n)) e)
