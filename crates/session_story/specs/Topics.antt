-- The story of a session on a topic: its report, a page, or a line of its text.
use Rattle.std.specs.Prelude.{◌≡◌, ◌≢◌, ℕ, ◌<◌, ◌≤◌, Option, Some, None, MatchOption}
use Rattle.migration_types.specs.Sessions.{Recorded}
use Rattle.page_facts.specs.PageFaults.{IsClean, IsFirstFault}
use Rattle.audit_report.specs.declared.report.Report.{Report}
use Rattle.audit_report.specs.declared.report.Report.TheVariants as report
use Rattle.session_story.specs.Explained.{IsExplanation, IsFaultStory, IsShapeStory}
use Rattle.session_story.specs.Kinds.{AreKinds}
use Rattle.session_story.specs.Pages.{IsHandover, IsPageStory}
use Rattle.session_story.specs.Places.{IsAtLineOf, HasNoRecord}
use Rattle.session_story.specs.Subjects.{page_of}
use Rattle.session_story.specs.declared.explanations.Explanation.{Explanation}
use Rattle.session_story.specs.declared.explanations.Explanation.TheVariants as explained
use Rattle.session_story.specs.declared.fault_stories.FaultStory.{FaultStory}
use Rattle.session_story.specs.declared.fault_stories.ApartStory.{ApartStory}
use Rattle.session_story.specs.declared.fault_stories.ShapeStory.{ShapeStory}
use Rattle.session_story.specs.declared.topic_stories.LineStory.{LineStory}
use Rattle.session_story.specs.declared.topic_stories.FullPageStory.{FullPageStory}
use Rattle.session_story.specs.declared.topic_stories.TopicStory.{TopicStory}
use Rattle.session_story.specs.declared.topic_stories.TopicStory.TheVariants as told
use Rattle.migration_types.specs.declared.topic.Topic.{Topic}
use Rattle.migration_types.specs.declared.topic.Topic.TheVariants as topic

-- the story of the page's first fault
pub record IsFirstFaultStory (s : Recorded) (page : ℕ) (f : FaultStory) : Type 0 where
  pub is_first : IsFirstFault s page f.fault
  pub story : IsFaultStory s f

-- the story of the page, with the story of its first fault, if it has one, and all its faults by kind
pub record IsPageTold (s : Recorded) (page : ℕ) (t : FullPageStory) : Type 0 where
  pub story : IsPageStory s page t.story
  pub handover : IsHandover s t.handover
  pub fault : MatchOption t.fault (IsClean s page) (IsFirstFaultStory s page)
  pub kinds : AreKinds s page t.kinds

-- the machine has a page of this number, and this is its story; or it has no such page
abbrev pub IsToldOfPage : Recorded → ℕ → Option FullPageStory → Type 0
IsToldOfPage s number None = s.geometry.pages ≤ number
IsToldOfPage s number (Some t) = (number < s.geometry.pages) × IsPageTold s number t

-- if a record is about a page, this is the story of the page
abbrev pub IsToldOfItsPage : Recorded → Option ℕ → Option FullPageStory → Type 0
IsToldOfItsPage s None told = told ≡ None
IsToldOfItsPage s (Some page) None = ⊥
IsToldOfItsPage s (Some page) (Some t) = IsPageTold s page t

-- if the report's fault of shape is at this line, its story
abbrev pub IsShapeTold : Recorded → Report → ℕ → Option ShapeStory → Type 0
IsShapeTold s (report.Shape fault) line shape = MatchOption shape (fault.line ≢ line) (λ t. (fault.line ≡ line) × IsShapeStory s fault t)
IsShapeTold s _ line shape = shape ≡ None

-- the record at this line, the story of what is wrong with its shape, if the report says so, and the story of its page
pub record IsLineTold (s : Recorded) (r : Report) (line : ℕ) (t : LineStory) : Type 0 where
  pub is_at : IsAtLineOf s t.log line t.place
  pub shape : IsShapeTold s r line t.shape
  pub page : IsToldOfItsPage s (page_of s (t.log, t.place)) t.page

-- there is a record at this line, and this is its story; or there is none
abbrev pub IsToldOfLine : Recorded → Report → ℕ → Option LineStory → Type 0
IsToldOfLine s r line t = MatchOption t (HasNoRecord s line) (IsLineTold s r line)

-- the story of a session with this report, on a topic
abbrev pub IsTold : Recorded → Report → Topic → TopicStory → Type 0
IsTold s r topic.Report (told.Report explanation) = IsExplanation s r explanation
IsTold s r (topic.Page number) (told.Page n t) = (n ≡ number) × IsToldOfPage s number t
IsTold s r (topic.Line line) (told.Line n t) = (n ≡ line) × IsToldOfLine s r line t
IsTold s r _ _ = ⊥

-- ---- parts of a story

-- the story of a page, if there is one
abbrev pub page_of_line : Option LineStory → Option FullPageStory
page_of_line None = None
page_of_line (Some t) = t.page

abbrev pub page_in : TopicStory → Option FullPageStory
page_in (told.Report explanation) = None
page_in (told.Page number t) = t
page_in (told.Line line t) = page_of_line t

-- the story of the fault, if there is one: the report's, or the first of the page
abbrev pub fault_reported : Explanation → Option FaultStory
fault_reported (explained.Faulty story more) = Some story
fault_reported other = None

abbrev pub fault_of_page : Option FullPageStory → Option FaultStory
fault_of_page None = None
fault_of_page (Some t) = t.fault

abbrev pub fault_in : TopicStory → Option FaultStory
fault_in (told.Report explanation) = fault_reported explanation
fault_in (told.Page number t) = fault_of_page t
fault_in (told.Line line t) = fault_of_page (page_of_line t)

-- the story of the first fault that misshapen records do not touch, if the story is of the shape and there is such a fault
abbrev pub apart_story : Option ApartStory → Option FaultStory
apart_story None = None
apart_story (Some t) = Some t.story

abbrev pub apart_in : TopicStory → Option FaultStory
apart_in (told.Report (explained.Shape story apart)) = apart_story apart
apart_in t = None
