-- What comes back from a relay.
use Rattle.std.specs.Prelude.{◌≡◌, List, ℕ, ◌++◌, Option, Some, None}
use Rattle.migration_types.specs.Extents.{Extent}

-- the machine whose packets go out, and the bytes that came last
pub record Echoed : Type 0 where
  pub geometry : Extent
  pub came : List ℕ

-- Bytes were sent through a relay, and these came back. What the relay held before, followed by what was sent, is what
-- came back, followed by what it holds now, if that is known.
abbrev pub Carries : Option (List ℕ) → Option (List ℕ) → List ℕ → List ℕ → Type 0
Carries None after sent came = Unit {0}
Carries (Some held) None sent came = ⊥
Carries (Some held) (Some left) sent came = held ++ sent ≡ came ++ left

-- bytes were sent through a relay, and what came back was appended to what had come
pub record HasCarried (before after : Option (List ℕ)) (sent old new : List ℕ) : Type 0 where
  pub came : List ℕ
  pub new_is : new ≡ old ++ came
  pub carries : Carries before after sent came
