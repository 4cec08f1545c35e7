-- What is said: what was said before stays in front, and nothing is said only if nothing is lacking.
use Rattle.std.specs.Prelude.{◌≡◌, ◌++◌, ℕ, List, []}

-- bytes were appended, or none were: what was there stays in front
abbrev pub Extends : List ℕ → List ℕ → Type 0
Extends old new = (more : List ℕ) × (new ≡ old ++ more)

-- nothing is said now only if nothing was said before, and this holds
abbrev pub SaysUnless : List ℕ → List ℕ → Type 0 → Type 0
SaysUnless old new Holds = new ≡ [] → (old ≡ []) × Holds
