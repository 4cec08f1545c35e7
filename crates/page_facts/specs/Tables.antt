-- Tables of pages, and the earlier records that pass a test.
use Rattle.std.specs.Prelude.{◌≡◌, ℕ, zero, suc, Bool, false, ◌||◌, List, Option, None, slice_get}
use Rattle.audit_model.specs.Shape.{passes}
pub use Rattle.page_store.specs.Tables.{or_here, noted, marked_if}
use Rattle.page_store.specs.Tables.{Values, pages_of, values}

-- whether an earlier record passes a test, which may look at the record's place
abbrev pub some_before : {A : Type 0} → (ℕ → A → Bool) → List A → ℕ → Bool
some_before test log zero = false
some_before test log (suc n) = passes (test n) (slice_get log n) || some_before test log n

-- the place of the first earlier record that passes the test
abbrev pub first_before : {A : Type 0} → (ℕ → A → Bool) → List A → ℕ → Option ℕ
first_before test log zero = None
first_before test log (suc n) = or_here (first_before test log n) (passes (test n) (slice_get log n)) n

-- a table of this many pages with f's value for each
pub record IsTable {A : Type 0} (pages : ℕ) (table : Values A) (f : ℕ → A) : Type 0 where
  pub pages_are : pages_of table ≡ pages
  pub values_are : values table ≡ f
