-- The contents of a page.
use Rattle.std.specs.Prelude.{◌≡◌, ℕ, ◌<◌, ◌^◌, List, length}
use Rattle.std.specs.List.{AllByRecursion}

-- a page's content: one value of 64 bits for each of its cells
pub record IsContent (cells : ℕ) (content : List ℕ) : Type 0 where
  pub count : length content ≡ cells
  pub each : AllByRecursion (λ x. x < 2 ^ 64) content
