-- The least number that passes a test.
use Rattle.std.specs.Prelude.{◌≡◌, ◌<◌, ℕ, Bool, true, false}

abbrev pub NonePass : (ℕ → Bool) → ℕ → Type 0
NonePass test bound = (m : ℕ) → m < bound → test m ≡ false

pub record IsLeast (test : ℕ → Bool) (bound n : ℕ) : Type 0 where
  pub is_below : n < bound
  pub passes_test : test n ≡ true
  pub is_least : NonePass test n
