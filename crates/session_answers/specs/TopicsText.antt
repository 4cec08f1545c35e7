-- The topic of a story, as a JSON object has it, and the object of a story.
use Rattle.std.specs.Prelude.{ℕ, List, [], ◌++◌, Option, Some, None, codes}
use Rattle.migration_types.specs.Sessions.{Recorded, line_of}
use Rattle.audit_model.specs.Reasons.{page_word}
use Rattle.page_facts.specs.declared.page_fault.PageFault.{PageFault}
use Rattle.audit_report.specs.declared.report.Report.{Report}
use Rattle.session_story.specs.Causes.{cause_by, cause_of}
use Rattle.session_story.specs.Topics.{IsTold, apart_in, page_in}
use Rattle.session_story.specs.declared.fault_stories.FaultStory.{FaultStory}
use Rattle.session_story.specs.declared.topic_stories.FullPageStory.{FullPageStory}
use Rattle.session_story.specs.declared.topic_stories.LineStory.{LineStory}
use Rattle.migration_types.specs.declared.topic.Topic.{Topic}
use Rattle.session_story.specs.declared.topic_stories.TopicStory.{TopicStory}
use Rattle.session_story.specs.declared.topic_stories.TopicStory.TheVariants as story
use Rattle.session_answers.specs.JsonText.{listed, number, opened, record_in, report_begun, word}
use Rattle.session_answers.specs.CausesText.{cause_told}
use Rattle.session_answers.specs.KindsText.{faults_told}
use Rattle.session_answers.specs.RecordsText.{records_of, told_record}

-- the first fault of a page, without its end
unfoldable pub fault_begun : (ℕ → ℕ) → Recorded → PageFault → List ℕ
fault_begun tell s f =
    codes ",\"fault\":" ++ opened (codes "line") (tell (line_of s (f.log, f.place))) ++ record_in f.log f.place ++ word (codes "reason") (page_word f.reason)

-- the same whole, as in ,"fault":{"line":13,"log":"guest","record":6,"reason":"early"}
unfoldable pub fault_of : (ℕ → ℕ) → Recorded → PageFault → List ℕ
fault_of tell s f = fault_begun tell s f ++ codes "}"

-- The first fault that misshapen records do not touch, if there is one, with its page, as in
-- ,"fault":{"line":13,"log":"guest","record":6,"reason":"early","page":1}, and its cause.
unfoldable pub apart_told : (ℕ → ℕ) → Recorded → Option FaultStory → List ℕ
apart_told tell s None = []
apart_told tell s (Some f) = fault_begun tell s f.fault ++ number (codes "page") f.page.page ++ codes "}" ++ cause_told tell s (Some (cause_by f))

-- the same if the page has a fault
unfoldable pub first_fault : (ℕ → ℕ) → Recorded → Option FaultStory → List ℕ
first_fault tell s None = []
first_fault tell s (Some f) = fault_of tell s f.fault

-- a page by its number, with its first fault, or with how many pages the machine has if it does not have this one
unfoldable pub page_topic : (ℕ → ℕ) → Recorded → ℕ → Option FullPageStory → List ℕ
page_topic tell s n None = opened (codes "page") n ++ number (codes "pages") s.geometry.pages
page_topic tell s n (Some t) = opened (codes "page") n ++ first_fault tell s t.fault

-- the page that a record is about, if it is about one, with the page's first fault
unfoldable pub its_page : (ℕ → ℕ) → Recorded → Option FullPageStory → List ℕ
its_page tell s None = []
its_page tell s (Some t) = number (codes "page") t.story.page ++ first_fault tell s t.fault

-- a line, with the record at it, if there is one, and the page that this is about
unfoldable pub line_topic : (ℕ → ℕ) → Recorded → ℕ → Option LineStory → List ℕ
line_topic tell s line None = opened (codes "line") (tell line)
line_topic tell s line (Some t) = opened (codes "line") (tell line) ++ record_in t.log t.place ++ its_page tell s t.page

-- the topic of a story, unless it is the report, as in ,"topic":{"page":1}
unfoldable pub topic_of : (ℕ → ℕ) → Recorded → TopicStory → List ℕ
topic_of tell s (story.Report e) = []
topic_of tell s (story.Page n t) = codes ",\"topic\":" ++ page_topic tell s n t ++ codes "}"
topic_of tell s (story.Line line t) = codes ",\"topic\":" ++ line_topic tell s line t ++ codes "}"

-- The object of a report with its story on a topic: the topic, the first fault apart from the shape, the cause of its fault, all faults of the page by kind, and
-- the records of the story.
abbrev pub told_object : (ℕ → ℕ) → Recorded → Report → TopicStory → List ℕ
told_object tell s report t =
    report_begun tell s report ++ topic_of tell s t ++ apart_told tell s (apart_in t) ++ cause_told tell s (cause_of t) ++ faults_told tell s (page_in t)
    ++ listed (codes "records") told_record (records_of tell s t) ++ codes "}\n"

-- this is the story on some topic
abbrev pub IsStory : Recorded → Report → TopicStory → Type 0
IsStory s report t = (topic : Topic) × IsTold s report topic t
