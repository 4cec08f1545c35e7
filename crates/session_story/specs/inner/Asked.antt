-- The pages that somebody has asked the source for.
use Rattle.std.specs.Prelude.{ℕ, Bool, false, not}
use Rattle.migration_types.specs.declared.records.SourceRec.{SourceRec}
use Rattle.migration_types.specs.declared.records.SourceRec.TheVariants.{Send}
use Rattle.migration_types.specs.Sessions.{Recorded}
use Rattle.session_story.specs.Counted.{asked_after}

-- whether it sends a page that is not among them
abbrev pub is_unasked : (ℕ → Bool) → SourceRec → Bool
is_unasked asked (Send page content) = not (asked page)
is_unasked asked _ = false

-- the pages that are asked for after a record of the source
abbrev pub asked_by : Recorded → SourceRec → (ℕ → Bool) → ℕ → Bool
asked_by s r asked page = asked_after s page r (asked page)
