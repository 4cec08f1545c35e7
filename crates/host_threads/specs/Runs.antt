-- The result of a run whose threads have ended.
use Rattle.std.specs.Prelude.{◌≡◌, List, Option, Some, None}
use Rattle.migration_types.specs.declared.session.Logs.{Logs}
use Rattle.migration_types.specs.Sessions.{recorded}
use Rattle.page_store.specs.Frames.{Frames}
use Rattle.guest_script.specs.declared.script.Scenario.{Scenario}
use Rattle.guest_script.specs.declared.transcript.Answered.{Answered}
use Rattle.host_checks.specs.declared.outcome.Migrated.{Migrated}
use Rattle.host_checks.specs.declared.outcome.RunFault.{RunFault}
use Rattle.host_checks.specs.declared.outcome.RunFault.TheVariants as told
use Rattle.host_threads.specs.declared.stop_reason.StopReason.{StopReason}
use Rattle.host_threads.specs.declared.stop_reason.StopReason.TheVariants.{LogFull, Memory, Threads, Link, Astray}

-- the refusal of a run that stopped for this reason, before anything is checked
abbrev pub told_as : StopReason → Option RunFault
told_as LogFull = Some told.LogFull
told_as Memory = Some told.Memory
told_as Threads = Some told.Threads
told_as Link = Some told.Link
told_as Astray = None

abbrev pub told_of : Option StopReason → Option RunFault
told_of None = None
told_of (Some fault) = told_as fault

-- a run of the script has left these logs, these frames and these transcripts
pub record IsRunOf (script : Scenario) (logs : Logs) (store : Frames) (transcripts : List (List Answered)) (m : Migrated) : Type 0 where
  pub session : m.session ≡ recorded script.version script.geometry script.init logs
  pub frames : m.store ≡ store
  pub answers : m.transcripts ≡ transcripts
