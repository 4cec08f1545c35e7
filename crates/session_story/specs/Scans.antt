-- The last earlier record of a log that passes a test, and how many earlier records do.
use Rattle.std.specs.Prelude.{ℕ, zero, suc, Bool, List, Option, Some, None, slice_get, if◌then◌else◌}
use Rattle.audit_model.specs.Shape.{passes}

-- the place of the last earlier record that passes the test
abbrev pub last_before : {A : Type 0} → (ℕ → A → Bool) → List A → ℕ → Option ℕ
last_before test log zero = None
last_before test log (suc n) = if passes (test n) (slice_get log n) then Some n else last_before test log n

-- how many earlier records pass the test
abbrev pub how_many : {A : Type 0} → (ℕ → A → Bool) → List A → ℕ → ℕ
how_many test log zero = 0
how_many test log (suc n) = if passes (test n) (slice_get log n) then suc (how_many test log n) else how_many test log n
