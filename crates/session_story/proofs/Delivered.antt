-- Marks of the records that are delivered, and counts of those without a mark.
use Rattle.std.proofs.Common.{◌≡◌, ℕ, ◌+◌, Bool, true, false, ◌||◌, List, length, Some, refl, ap, ◌∙◌, sym, arith}
use Rattle.std.specs.Prelude.{slice_get, slice_index_or}
use Rattle.std.specs.List.{list_any}
use Rattle.audit_model.specs.Shape.{earlier}
use Rattle.completeness.proofs.Records.{earlier_on}
use Rattle.completeness.proofs.Walking.{any_of_all}
use Rattle.session_story.specs.inner.Delivered.{AreMarked}

or_joined : (a b c : Bool) → (a || (b || c)) ≡ ((a || b) || c)
or_joined true b c = refl
or_joined false b c = refl

-- one record more
pub marked_on : {A : Type 0} (test : ℕ → A → Bool) (log : List A) (n : ℕ) (r : A) (start old new : List Bool) → slice_get log n ≡ Some r → AreMarked (λ m. earlier (test m) log n) start old → AreMarked (λ m. test m r) old new → AreMarked (λ m. earlier (test m) log (n + 1)) start new
marked_on test log n r start old new is was on = record {
  many = on.many ∙ was.many;
  each = λ m lt.
      on.each m (omega (arith, lt, was.many)) ∙ ap (λ b. test m r || b) (was.each m lt)
      ∙ or_joined (test m r) (earlier (test m) log n) (slice_index_or start m false)
      ∙ ap (λ b. b || slice_index_or start m false) (sym (earlier_on (test m) log n r is));
}

-- the whole log
pub marked_all : {A : Type 0} (test : ℕ → A → Bool) (log : List A) (start new : List Bool) → AreMarked (λ m. earlier (test m) log (length log)) start new → AreMarked (λ m. list_any (test m) log) start new
marked_all test log start new all = record {
  many = all.many;
  each = λ m lt. all.each m lt ∙ ap (λ b. b || slice_index_or start m false) (any_of_all (test m) log);
}
