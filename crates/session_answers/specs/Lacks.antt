-- The forms in which a lack of a session is written.
use Rattle.std.specs.Prelude.{◌≡◌, ℕ, List}
use Rattle.migration_types.specs.Sessions.{Recorded}
use Rattle.completeness.specs.Complete.{Lacks}
use Rattle.completeness.specs.declared.lack.Extent.{Extent}
use Rattle.completeness.specs.declared.lack.Lack.{Lack}
use Rattle.audit_report.specs.MissingText.{missing_text}
use Rattle.session_answers.specs.JsonText.{missing_object}
use Rattle.session_answers.specs.Told.{IsLackingText}
use Rattle.session_answers.specs.declared.forms.AnswerForm.{AnswerForm}
use Rattle.session_answers.specs.declared.forms.AnswerForm.TheVariants as form
use Rattle.session_answers.specs.declared.forms.Story.{Story}
use Rattle.session_answers.specs.declared.forms.Story.TheVariants as story
use Rattle.session_answers.specs.declared.forms.LackForm.{LackForm}
use Rattle.session_answers.specs.declared.forms.LackForm.TheVariants.{Line, Words, Object}

-- the line, and the object
abbrev pub line_of : (ℕ → ℕ) → Recorded → Lack → List ℕ
line_of tell s m = missing_text tell s m

abbrev pub object_of : (ℕ → ℕ) → Recorded → Lack → List ℕ
object_of tell s m = missing_object tell s m

-- the text in this form that says that a session lacks something, with its line numbers mapped: a line, the line with
-- words after it, or an object
abbrev pub TellsLack : (ℕ → ℕ) → LackForm → Recorded → Lack → List ℕ → Type 0
TellsLack tell Line s m text = text ≡ line_of tell s m
TellsLack tell Words s m text = IsLackingText tell s m text
TellsLack tell Object s m text = text ≡ object_of tell s m

-- the form of a lack that goes with this form of a story
abbrev pub story_lack : Story → LackForm
story_lack (story.Words topic) = Words
story_lack (story.Object topic) = Object

-- the form of a lack that goes with this form of a report
abbrev pub lack_form : AnswerForm → LackForm
lack_form (form.Lines wanted) = Line
lack_form form.AllFaults = Line
lack_form form.Object = Object
lack_form form.AllFaultsObject = Object
lack_form (form.Story told) = story_lack told

-- a text says the first thing that is missing, of what this extent requires
pub record IsLack (tell : ℕ → ℕ) (extent : Extent) (form : LackForm) (s : Recorded) (text : List ℕ) : Type 0 where
  pub lacking : Lack
  pub lacks : Lacks extent s lacking
  pub says : TellsLack tell form s lacking text
