-- What the program says about the texts that the words name.
use Rattle.std.specs.Prelude.{◌≡◌, ◌<◌, ◌⊎◌, ℕ, List, Option, Some, None, Result, Ok, Err, MatchOption, MatchResult, codes}
use Rattle.std.specs.Global.{Vec}
use Rattle.command_words.specs.declared.requests.Request.{Request}
use Rattle.command_words.specs.declared.requests.Request.TheVariants.{One, Two, Migrate, Draw, Window}
use Rattle.command_words.specs.declared.requests.Pages.{Pages}
use Rattle.windows.specs.declared.pages.Window.{Window as CutWindow}
use Rattle.session_commands.specs.Windows.{EndsWindow, HasWindowLines}
use Rattle.command_words.specs.declared.requests.Demand.{Demand}
use Rattle.command_words.specs.declared.requests.Demand.TheVariants.{Safety}
use Rattle.command_words.specs.declared.requests.Demand.TheVariants as demand
use Rattle.command_words.specs.declared.requests.Audits.{Audits}
use Rattle.command_words.specs.declared.requests.Explains.{Explains}
use Rattle.command_words.specs.declared.requests.Lists.{Lists}
use Rattle.command_words.specs.declared.requests.ReportForm.{ReportForm}
use Rattle.command_words.specs.declared.requests.ReportForm.TheVariants as report
use Rattle.command_words.specs.declared.requests.ListForm.{ListForm}
use Rattle.command_words.specs.declared.requests.ListForm.TheVariants as list
use Rattle.command_words.specs.declared.requests.StoryForm.{StoryForm}
use Rattle.command_words.specs.declared.requests.StoryForm.TheVariants as story
use Rattle.command_words.specs.declared.requests.OneText.{OneText}
use Rattle.command_words.specs.declared.requests.OneText.TheVariants.{Certify, Audit, Explain}
use Rattle.command_words.specs.declared.requests.TwoTexts.{TwoTexts}
use Rattle.command_words.specs.declared.requests.TwoTexts.TheVariants.{Check, Replay, Steps}
use Rattle.command_words.specs.declared.requests.TwoTexts.TheVariants as two
use Rattle.windows.specs.Tables.{SpellsTable}
use Rattle.session_answers.specs.declared.forms.Ask.{Ask}
use Rattle.session_answers.specs.declared.forms.AnswerForm.{AnswerForm}
use Rattle.session_answers.specs.declared.forms.AnswerForm.TheVariants as form
use Rattle.session_answers.specs.declared.forms.Story.{Story}
use Rattle.session_answers.specs.declared.forms.Story.TheVariants as tells
use Rattle.judged_texts.specs.declared.audit_part.AuditPart.TheVariants as wanted
use Rattle.command_words.specs.Table.{plain}
use Rattle.completeness.specs.declared.lack.Extent.{Extent}
use Rattle.completeness.specs.declared.lack.Extent.TheVariants as extent
use Rattle.session_log.specs.Grammar.{SpellsSession}
use Rattle.cert_text.specs.Grammar.{SpellsCert}
use Rattle.cert_text.specs.Order.{SpellsOrder}
use Rattle.guest_script.specs.Events.{SpellsEvents}
use Rattle.guest_script.specs.Scripts.{SpellsScript}
use Rattle.command_texts.specs.declared.answer.Fault.{Fault}
use Rattle.command_texts.specs.declared.why.Telling.TheVariants.{Short}
use Rattle.command_texts.specs.Answers.{IsHostFault, IsTextFault, fault_line, fault_status}
use Rattle.command_texts.specs.Fields.{IsAnswerTold}
use Rattle.command_texts.specs.Reasons.{IsFirstRefused, IsRefusedAt, TellsBeside, TellsWhyOf}
use Rattle.command_texts.specs.Several.{IsListStatus, StopsSeveral, Style, TellsSeveral}
use Rattle.command_texts.specs.Told.{AreNamed, Ends, IsNamed, NoSession}
use Rattle.text_access.specs.Names.{Files}
use Rattle.text_access.specs.Written.{AppendsFront, Gains, Streams}
use Rattle.judge_commands.specs.Answers.{AddsMisfitOf, how_much, story_telling, verdict_telling}
use Rattle.judge_commands.specs.ByTables.{IsExplainedByTable}
use Rattle.judge_commands.specs.Completed.{IsAnswered, IsChecked}
use Rattle.judge_commands.specs.Noted.{IsBeside}
use Rattle.judge_commands.specs.Replayed.{AddsReasonOf, IsReplayAnswer}
use Rattle.host_commands.specs.Steps.{IsStepsAnswer}
use Rattle.host_commands.specs.Migrations.{IsMigrateAnswer}
use Rattle.commands.specs.Drawings.{IsDrawAnswer, IsDrawAlongAnswer}

-- to what extent a session must be complete, if that is asked
abbrev pub extent_of : Demand → Option Extent
extent_of Safety = None
extent_of demand.Pages = Some extent.Pages
extent_of demand.Whole = Some extent.Whole

-- the form of a report, of each report in a list, and of a story
abbrev pub report_form : ReportForm → AnswerForm
report_form report.Lines = form.Lines wanted.Report
report_form report.FirstLine = form.Lines wanted.FirstLine
report_form report.AllFaults = form.AllFaults
report_form report.Object = form.Object
report_form report.AllFaultsObject = form.AllFaultsObject

abbrev pub list_form : ListForm → AnswerForm
list_form list.FirstLines = form.Lines wanted.FirstLine
list_form list.Objects = form.Object
list_form list.AllFaultsObjects = form.AllFaultsObject

abbrev pub story_form : StoryForm → Story
story_form (story.Words topic) = tells.Words topic
story_form (story.Object topic) = tells.Object topic

-- what an audit asks about a session, what an explanation asks, and what an audit of several sessions asks about each
abbrev pub audit_ask : Audits → Ask
audit_ask audits = record { form = report_form audits.form; complete = extent_of audits.demand }

abbrev pub explain_ask : Explains → Ask
explain_ask explains = record { form = form.Story (story_form explains.form); complete = extent_of explains.demand }

abbrev pub list_ask : Lists → Ask
list_ask lists = record { form = list_form lists.form; complete = extent_of lists.demand }

-- what a command on one text asks about it
abbrev pub ask_of : OneText → Ask
ask_of Certify = record { form = form.Lines wanted.Certificate; complete = None }
ask_of (Audit audits) = audit_ask audits
ask_of (Explain explains) = explain_ask explains

-- the answer of a command on one text
abbrev pub IsOneAnswer : OneText → List ℕ → List ℕ → ℕ → Type 0
IsOneAnswer task = IsAnswerTold (how_much (ask_of task).form) (IsRefusedAt SpellsSession) (IsAnswered (ask_of task))

-- the answer of a command on two texts
abbrev pub IsTwoAnswer : TwoTexts → List ℕ × List ℕ → List ℕ → ℕ → Type 0
IsTwoAnswer (Check checks) texts = IsAnswerTold (verdict_telling checks.form) (IsFirstRefused (IsRefusedAt SpellsSession) (IsRefusedAt SpellsCert)) (IsChecked checks.form (extent_of checks.demand)) texts
IsTwoAnswer Replay texts = IsReplayAnswer texts.0 texts.1
IsTwoAnswer Steps texts = IsStepsAnswer texts.0 texts.1
IsTwoAnswer (two.Explain explains) texts = IsAnswerTold (story_telling (story_form explains.form)) (IsFirstRefused (IsRefusedAt SpellsSession) (IsRefusedAt SpellsTable)) (IsExplainedByTable (story_form explains.form) (extent_of explains.demand)) texts

-- there is no note
abbrev pub NoNote : {T : Type 0} → T → ℕ → List ℕ → Type 0
NoNote texts status words = ⊥

-- the words of the note on the first of two texts, a session that may have to be complete
abbrev pub NotesFirst : Demand → List ℕ × List ℕ → ℕ → List ℕ → Type 0
NotesFirst demand texts = IsBeside (extent_of demand) texts.0

-- beside the answer of a command on one text: why the text is refused, and the note on the session
abbrev pub IsBesideOne : OneText → List ℕ → List ℕ → ℕ → Option (List ℕ) → Option (List ℕ) → Type 0
IsBesideOne task name = TellsWhyOf (IsRefusedAt SpellsSession) (IsBeside (ask_of task).complete) (how_much (ask_of task).form) name

-- nothing more is said about two texts
abbrev pub AddsNothing : List ℕ × List ℕ → List ℕ → List ℕ → List ℕ → Type 0
AddsNothing texts name before after = after ≡ before

-- beside the answer of a command on two texts: why one is refused; for `check`, the part of the certificate that does
-- not fit the session, and for `replay` why the runs are no merging; and the note on the session, if the command judges it
abbrev pub IsBesideTwo : TwoTexts → List ℕ → List ℕ → List ℕ × List ℕ → ℕ → Option (List ℕ) → Option (List ℕ) → Type 0
IsBesideTwo (Check checks) = TellsBeside (IsRefusedAt SpellsSession) (IsRefusedAt SpellsCert) AddsMisfitOf (NotesFirst checks.demand)
IsBesideTwo Replay = TellsBeside (IsRefusedAt SpellsSession) (IsRefusedAt SpellsOrder) AddsReasonOf NoNote
IsBesideTwo Steps = TellsBeside (IsRefusedAt SpellsScript) (IsRefusedAt SpellsEvents) AddsNothing NoNote
IsBesideTwo (two.Explain explains) = TellsBeside (IsRefusedAt SpellsSession) (IsRefusedAt SpellsTable) AddsNothing (NotesFirst explains.demand)

-- the faults of a command on the text under a name, and on the texts under two names
abbrev pub IsFaultOf : List ℕ → Fault → Type 0
IsFaultOf name = IsTextFault (λ n. n ≡ name)

abbrev pub IsFaultOfTwo : List ℕ → List ℕ → Fault → Type 0
IsFaultOfTwo first second = IsTextFault (λ n. (n ≡ first) ⊎ (n ≡ second))

-- the sessions that the first name of a command on two texts may have: `steps` takes a script there
abbrev pub FirstHas : TwoTexts → (List ℕ → List ℕ → Type 0) → List ℕ → List ℕ → Type 0
FirstHas Steps HasSession = NoSession
FirstHas other HasSession = HasSession

-- the window of these pages
abbrev pub window_of : Pages → CutWindow
window_of pages = record { first = pages.first; count = pages.count }

-- the command wrote what is asked for about the texts under its names, or it failed with a fault
abbrev pub EndsAsked : Request (List ℕ) → Files → (List ℕ → List ℕ → Type 0) → Option (List ℕ) → Streams → Streams → Result ℕ Fault → Type 0
EndsAsked (One task name) files HasSession input =
    Ends (IsFaultOf name) (IsNamed name files HasSession input) (IsOneAnswer task) (IsBesideOne task name)
EndsAsked (Two task first second) files HasSession input =
    Ends (IsFaultOfTwo first second) (AreNamed first second files (FirstHas task HasSession) NoSession input) (IsTwoAnswer task) (IsBesideTwo task first second)
EndsAsked (Migrate carrier name) files HasSession input =
    Ends (IsHostFault (λ n. n ≡ name)) (IsNamed name files NoSession input) IsMigrateAnswer (TellsWhyOf (IsRefusedAt SpellsScript) NoNote Short name)
EndsAsked (Draw topic name None) files HasSession input =
    Ends (IsFaultOf name) (IsNamed name files HasSession input) (IsDrawAnswer topic) (TellsWhyOf (IsRefusedAt SpellsSession) NoNote Short name)
EndsAsked (Draw topic first (Some second)) files HasSession input =
    Ends (IsFaultOfTwo first second) (AreNamed first second files HasSession NoSession input) (IsDrawAlongAnswer topic) (TellsBeside (IsRefusedAt SpellsSession) (IsRefusedAt SpellsOrder) AddsNothing NoNote first second)
EndsAsked (Window pages name lines) files HasSession input = EndsWindow (window_of pages) name files HasSession input

-- what is asked for if there are no words: `check - -`
abbrev pub bare_job : Request (List ℕ)
bare_job = Two (Check plain) (codes "-") (codes "-")

-- if the lines of a window are asked for, this is their table; otherwise nothing changes
abbrev pub HasLines : Request (List ℕ) → Files → (List ℕ → List ℕ → Type 0) → Option (List ℕ) → Option (List ℕ) → Option (List ℕ) → Option (Vec ℕ) → Option (Vec ℕ) → Type 0
HasLines (Window pages name (Some lines)) files HasSession input old new before after = MatchOption after ⊥ (λ table. HasWindowLines (window_of pages) name files HasSession input old new table.items)
HasLines other files HasSession input old new before after = after ≡ before

-- it failed with a fault, and the errors report it, with its status
pub record TellsFault (EndsSo : Streams → Result ℕ Fault → Type 0) (new : Streams) (status : ℕ) : Type 0 where
  pub fault : Fault
  pub is_status : status ≡ fault_status fault
  pub before : Option (List ℕ)
  pub ends : EndsSo (new.0, before) (Err fault)
  pub told : AppendsFront before new.1 (fault_line fault)

-- the status of something that ends like this: its own, which must be one of these, or that of a fault
abbrev pub IsSettledAs : (ℕ → Type 0) → (Streams → Result ℕ Fault → Type 0) → Streams → ℕ → Type 0
IsSettledAs IsOwn EndsSo new status = (IsOwn status × EndsSo new (Ok status)) ⊎ TellsFault EndsSo new status

-- its own status is 0 or 1
abbrev pub IsSettled : (Streams → Result ℕ Fault → Type 0) → Streams → ℕ → Type 0
IsSettled = IsSettledAs (λ status. status < 2)

-- the own status of a list is also 3, if a text was not read
abbrev pub IsSettledList : (Streams → Result ℕ Fault → Type 0) → Streams → ℕ → Type 0
IsSettledList = IsSettledAs IsListStatus

-- the errors report a fault that has this status
pub record IsFaultTold (old new : Option (List ℕ)) (status : ℕ) : Type 0 where
  pub fault : Fault
  pub is_status : status ≡ fault_status fault
  pub before : Option (List ℕ)
  pub behind : Option (List ℕ)
  pub gained : Gains old before
  pub told : AppendsFront before behind (fault_line fault)
  pub more : Gains behind new

-- lines follow the names of the sessions, and "2 of 3 sessions are clean" or the like is the last line; objects have
-- the names in them
abbrev pub list_style : ListForm → Style
list_style list.FirstLines = Some (codes " sessions are clean\n")
list_style list.Objects = None
list_style list.AllFaultsObjects = None

-- the answer to one of several sessions that are audited
abbrev pub IsListAnswer : Lists → List ℕ → List ℕ → ℕ → Type 0
IsListAnswer lists = IsAnswerTold (how_much (list_ask lists).form) (IsRefusedAt SpellsSession) (IsAnswered (list_ask lists))

-- the audits of the sessions under these names were written, or the list stopped early
abbrev pub EndsSeveral : Lists × List (List ℕ) → Files → (List ℕ → List ℕ → Type 0) → Streams → Streams → Result ℕ Fault → Type 0
EndsSeveral several files HasSession old new done =
    MatchResult done
    (TellsSeveral files HasSession (IsListAnswer several.0) (IsRefusedAt SpellsSession) (IsBeside (list_ask several.0).complete) (list_style several.0.form) several.1 old new)
    (StopsSeveral files HasSession (IsListAnswer several.0) (IsRefusedAt SpellsSession) (IsBeside (list_ask several.0).complete) (list_style several.0.form) several.1 old new)
