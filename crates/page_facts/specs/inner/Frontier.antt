-- Whether there is a first record, and it comes before another.
use Rattle.std.specs.Prelude.{ℕ, Bool, false, nat_lt, Option, Some, None}

-- whether there is a first record, and it comes before record n
abbrev pub is_before : Option ℕ → ℕ → Bool
is_before (Some place) n = nat_lt place n
is_before None n = false
