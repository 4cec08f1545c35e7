-- What is known of a recording before its text is written.
use Rattle.std.specs.Prelude.{◌≡◌, ℕ, List, [], Option, ⊤}
use Rattle.migration_types.specs.Sessions.{Recorded}
use Rattle.recordings.specs.declared.machine.WideMachine.{WideMachine}
use Rattle.walked_sessions.specs.Walks.{Bytes, IsRecordingOf}
use Rattle.session_commands.specs.Written.{IsWrittenFront}
use Rattle.session_commands.specs.Files.{IsChosen, IsFormOf, LeavesNothing, LosesNothing}
use Rattle.session_commands.specs.Telling.{SaysUnless}
use Rattle.session_commands.specs.declared.stops.Stop.{Stop}
use Rattle.session_commands.specs.declared.stops.Stop.TheVariants.{Unfit}
use Rattle.session_commands.specs.declared.found.FoundLog.{FoundLog}
use Rattle.session_commands.specs.declared.found.FoundLogs.{FoundLogs}
use Rattle.session_commands.specs.declared.making.Known.{Known}
use Rattle.session_commands.specs.declared.making.Form.{Form}

-- what is written of the recording that the files tell, which was met; and where nothing is said of what is lacking, nothing is left out
pub record HasSeen (Met : Recorded → Type 0) (machine : WideMachine) (bytes : Bytes) (lane : FoundLog) (said_before said : List ℕ) (seen : Form) : Type 0 where
  pub s : Recorded
  pub made : IsRecordingOf machine [] bytes s
  pub met : Met s
  pub written : IsWrittenFront s seen.front
  pub form : IsFormOf lane s seen.front (record machine { version = seen.version; size = seen.size })
  pub whole : SaysUnless said_before said (LeavesNothing made seen.front)

-- a recording that was gone through, and is not yet written; and where nothing is said of what is lacking, nothing is lost
pub record IsKnown (files : List ℕ → Option (List ℕ)) (logs : FoundLogs) (known : Known) : Type 0 where
  pub chosen : IsChosen files logs known.machine known.init.items known.front
  pub whole : known.said.items ≡ [] → LosesNothing chosen

-- the same, where the recording that the files tell was met
abbrev pub IsKnownAndMet : (Recorded → Type 0) → (List ℕ → Option (List ℕ)) → FoundLogs → Known → Type 0
IsKnownAndMet Met files logs known = (is : IsKnown files logs known) × Met is.chosen.seen

-- the files make no session
abbrev pub IsUnfit : Stop → Type 0
IsUnfit (Unfit words) = ⊤
IsUnfit other = ⊥
