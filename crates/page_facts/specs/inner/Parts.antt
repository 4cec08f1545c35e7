-- Answers about some consecutive pages.
use Rattle.std.specs.Prelude.{ℕ, ◌+◌, ◌≤◌}

-- they are pages of the machine
pub record IsPart {A : Type 0} (IsAnswer : ℕ → ℕ → A → Type 0) (pages first count : ℕ) (answer : A) : Type 0 where
  pub within : first + count ≤ pages
  pub is_answer : IsAnswer first count answer
