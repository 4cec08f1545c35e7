-- The line numbers that are printed for a session's text, as a function from its lines.
use Rattle.std.specs.Prelude.{ℕ, zero, suc, List, slice_get, unwrap_or}

-- each line's own number
abbrev pub own : ℕ → ℕ
own line = line

-- the line that a table has for a line, counted from 1, or the line itself if the table has none
abbrev pub line_by : List ℕ → ℕ → ℕ
line_by table zero = zero
line_by table (suc n) = unwrap_or (slice_get table n) (suc n)
