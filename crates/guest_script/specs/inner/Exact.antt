-- What the lines read so far leave open.
use Rattle.std.specs.Prelude.{ℕ, List, ◌++◌}

-- After these lines, exactly these lines may follow: those that are left of a value.
pub record Exact {V : Type 0} (Spells Rest : V → List (List ℕ) → Type 0) (held : List (List ℕ)) : Type 0 where
  pub only : (v : V) (more : List (List ℕ)) → Spells v (held ++ more) → Rest v more
  pub all : (v : V) (more : List (List ℕ)) → Rest v more → Spells v (held ++ more)
