-- The number that the next page of the initial memory may have.
use Rattle.std.specs.Prelude.{ℕ, ◌+◌, List, [], ◌∷◌}
use Rattle.migration_types.specs.declared.pages.InitPage.{InitPage}

-- the least number that a page after these may have, if the first of them may have `low`
abbrev pub next_from : ℕ → List InitPage → ℕ
next_from low [] = low
next_from low (p ∷ ps) = next_from (p.page + 1) ps
