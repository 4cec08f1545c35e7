-- The forms of an answer about a session's text.
use Rattle.std.specs.Prelude.{◌≡◌, ℕ, Bool, true, false, List, codes}
use Rattle.migration_types.specs.Sessions.{Recorded}
use Rattle.page_facts.specs.declared.faulty.FaultyPage.{FaultyPage}
use Rattle.page_facts.specs.FaultyPages.{AreFaultyPages}
use Rattle.audit_report.specs.declared.report.Report.{Report}
use Rattle.audit_report.specs.FaultyPagesText.{all_faults_text}
use Rattle.audit_report.specs.declared.report.Report.TheVariants as report
use Rattle.audit_report.specs.RefusalText.{refusal_text}
use Rattle.audit_report.specs.ToldLines.{own}
use Rattle.session_answers.specs.JsonText.{all_faults_object, at_line, report_object}
use Rattle.judged_texts.specs.AuditedText.{wanted_text}
use Rattle.judged_texts.specs.declared.audit_part.AuditPart.{AuditPart}
use Rattle.session_answers.specs.TopicsText.{told_object}
use Rattle.session_answers.specs.Told.{IsRefusedText, IsToldText}
use Rattle.session_story.specs.Apart.{AreFaultyApart}
use Rattle.session_story.specs.Topics.{IsTold}
use Rattle.migration_types.specs.declared.topic.Topic.{Topic}
use Rattle.session_story.specs.declared.topic_stories.TopicStory.{TopicStory}
use Rattle.session_answers.specs.Judged.{Judged, Refused, Reported}
use Rattle.session_answers.specs.declared.forms.AnswerForm.{AnswerForm}
use Rattle.session_answers.specs.declared.forms.AnswerForm.TheVariants.{Lines, AllFaults, Object, AllFaultsObject}
use Rattle.session_answers.specs.declared.forms.AnswerForm.TheVariants as form
use Rattle.session_answers.specs.declared.forms.Story.{Story}
use Rattle.session_answers.specs.declared.forms.Story.TheVariants as story

-- lines: the wanted part of the report
abbrev pub TellsWanted : AuditPart → Judged → List ℕ → Type 0
TellsWanted wanted (Refused line) text = text ≡ refusal_text line
TellsWanted wanted (Reported s report) text = text ≡ wanted_text wanted report

-- a JSON object
abbrev pub TellsRefusalObject : ℕ → List ℕ → Type 0
TellsRefusalObject line text = text ≡ at_line (codes "session-text") line

abbrev pub TellsObject : Judged → List ℕ → Type 0
TellsObject (Refused line) text = TellsRefusalObject line text
TellsObject (Reported s report) text = text ≡ report_object s report

-- an object, with the records of the story on this topic, and its line numbers mapped
pub record TellsRecords (tell : ℕ → ℕ) (s : Recorded) (report : Report) (topic : Topic) (text : List ℕ) : Type 0 where
  pub told : TopicStory
  pub is_told : IsTold s report topic told
  pub is_text : text ≡ told_object tell s report told

-- the story on a topic, with its line numbers mapped: words, after the first line, or an object
abbrev pub TellsStory : (ℕ → ℕ) → Story → Judged → List ℕ → Type 0
TellsStory tell (story.Words topic) (Refused line) text = IsRefusedText (tell line) text
TellsStory tell (story.Words topic) (Reported s report) text = IsToldText tell s report topic text
TellsStory tell (story.Object topic) (Refused line) text = TellsRefusalObject (tell line) text
TellsStory tell (story.Object topic) (Reported s report) text = TellsRecords tell s report topic text

-- The pages that a report lists. If the shape is wrong, those with a fault that misshapen records do not touch; if there
-- is no merging, it does not matter which; and otherwise those with a fault.
abbrev pub AreListed : Recorded → Report → List FaultyPage → Type 0
AreListed s (report.Shape fault) pages = AreFaultyApart s pages
AreListed s (report.Knot left found) pages = Unit {0}
AreListed s (report.Faulty line fault order many) pages = AreFaultyPages s pages
AreListed s (report.Clean cert) pages = AreFaultyPages s pages

-- the text that these words make of the pages that the report lists
pub record TellsPages (words : List FaultyPage → List ℕ) (s : Recorded) (report : Report) (text : List ℕ) : Type 0 where
  pub pages : List FaultyPage
  pub are_listed : AreListed s report pages
  pub is_text : text ≡ words pages

-- lines, with each page that has a fault
abbrev pub TellsAllFaults : Judged → List ℕ → Type 0
TellsAllFaults (Refused line) text = text ≡ refusal_text line
TellsAllFaults (Reported s report) text = TellsPages (all_faults_text report) s report text

-- an object, with each page that has a fault
abbrev pub TellsAllFaultsObject : Judged → List ℕ → Type 0
TellsAllFaultsObject (Refused line) text = TellsRefusalObject line text
TellsAllFaultsObject (Reported s report) text = TellsPages (all_faults_object s report) s report text

-- whether the form lists each page with a fault
abbrev pub lists_pages : AnswerForm → Bool
lists_pages AllFaults = true
lists_pages AllFaultsObject = true
lists_pages other = false

-- these are the pages that the report lists, if the form lists them
abbrev pub ArePagesFor : AnswerForm → Recorded → Report → List FaultyPage → Type 0
ArePagesFor form s report pages = lists_pages form ≡ true → AreListed s report pages

-- the text in this form, with the line numbers of the session's own text
abbrev pub Tells : AnswerForm → Judged → List ℕ → Type 0
Tells (Lines wanted) = TellsWanted wanted
Tells AllFaults = TellsAllFaults
Tells Object = TellsObject
Tells AllFaultsObject = TellsAllFaultsObject
Tells (form.Story told) = TellsStory own told
