-- The lines that a reader of runs holds.
use Rattle.std.specs.Prelude.{Bool, List, ℕ}
use Rattle.cert_text.specs.declared.runs_text.RunsParts.{RunsParts}
use Rattle.cert_text.specs.inner.Held.{headed_by, HeadedLive}

abbrev pub held_at : Bool → RunsParts → List (List ℕ)
held_at headed p = headed_by headed p.runs.lines

abbrev pub LiveAt : Bool → RunsParts → Type 0
LiveAt headed p = HeadedLive headed p.runs
