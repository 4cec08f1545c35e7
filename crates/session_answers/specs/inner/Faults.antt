-- The fault in a story.
use Rattle.std.specs.Prelude.{◌<◌, ⊤, Option, Some, None}
use Rattle.migration_types.specs.Sessions.{Recorded, log_length}
use Rattle.session_story.specs.declared.fault_stories.FaultStory.{FaultStory}

-- if there is a fault, the session has its record
abbrev pub IsFaultThere : Recorded → Option FaultStory → Type 0
IsFaultThere s None = ⊤
IsFaultThere s (Some f) = f.fault.place < log_length s f.fault.log
