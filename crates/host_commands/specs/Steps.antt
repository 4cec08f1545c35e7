-- The outcome of a script and a list of events.
use Rattle.std.specs.Prelude.{◌≡◌, ℕ, List, None, codes}
use Rattle.text_lines.specs.Text.{ended, IsSpelling, IsRefusalLine}
use Rattle.migration_types.specs.Sessions.{Recorded}
use Rattle.session_log.specs.Grammar.{session_lines}
use Rattle.migration_events.specs.declared.events.Event.{Event}
use Rattle.migration_model.specs.Events.{run, start}
use Rattle.guest_script.specs.Events.{SpellsEvents}
use Rattle.guest_script.specs.declared.script.Scenario.{Scenario}
use Rattle.guest_script.specs.Scripts.{SpellsScript}
use Rattle.session_core.specs.States.{scripted_of}
use Rattle.session_core.specs.Promised.{IsRecordedBy}
use Rattle.command_texts.specs.Answers.{IsAnswer, numbered}

-- a text is refused at this line, an event needs more records than a log has room for, or this session is recorded
pub data Steps : Type 0 where
  ScriptText : ℕ → Steps
  EventsText : ℕ → Steps
  LogFull : Steps
  Records : Recorded → Steps

-- the outcome for the two texts; if both are refused, the line is that of the script
abbrev pub AreSteps : List ℕ → List ℕ → Steps → Type 0
AreSteps script events (ScriptText line) = IsRefusalLine SpellsScript script line
AreSteps script events (EventsText line) = (s : Scenario) × IsSpelling SpellsScript s script × IsRefusalLine SpellsEvents events line
AreSteps script events LogFull = (s : Scenario) × (es : List Event) × IsSpelling SpellsScript s script × IsSpelling SpellsEvents es events × (run es (start (scripted_of s)) ≡ None)
AreSteps script events (Records session) = (s : Scenario) × (es : List Event) × IsSpelling SpellsScript s script × IsSpelling SpellsEvents es events × IsRecordedBy (scripted_of s) es session

abbrev pub steps_text : Steps → List ℕ
steps_text (ScriptText line) = numbered (codes "script-text line ") line
steps_text (EventsText line) = numbered (codes "events-text line ") line
steps_text LogFull = codes "log-full\n"
steps_text (Records session) = ended (session_lines session)

-- 0 for a session, and 1 for any other outcome
abbrev pub steps_status : Steps → ℕ
steps_status (Records session) = 0
steps_status other = 1

-- `steps`: the outcome for the script and the events
abbrev pub IsStepsAnswer : List ℕ → List ℕ → List ℕ → ℕ → Type 0
IsStepsAnswer script events = IsAnswer (AreSteps script events) steps_text steps_status
