-- The sentences of stories: which, in which order, about which records, and with which numbers.
use Rattle.std.specs.Prelude.{ℕ, Bool, true, false, not, ◌==◌, ◌+◌, ◌&&◌, ◌||◌, nat_lt, is_some, List, [], ◌∷◌, ◌++◌, Option, Some, None, length, slice_get, if◌then◌else◌}
use Rattle.std.specs.List.{flat_map}
use Rattle.std.specs.Option.{option_map}
use Rattle.migration_types.specs.declared.records.LogName.{LogName}
use Rattle.migration_types.specs.declared.records.LogName.TheVariants.{Link, Lane, Source, Pager}
use Rattle.migration_types.specs.declared.records.SourceRec.{SourceRec}
use Rattle.migration_types.specs.declared.records.SourceRec.TheVariants.{Again}
use Rattle.migration_types.specs.declared.records.PagerRec.{PagerRec}
use Rattle.migration_types.specs.declared.records.PagerRec.TheVariants.{Place, Pull}
use Rattle.migration_types.specs.declared.version.Version.{Version}
use Rattle.migration_types.specs.declared.version.Version.TheVariants.{One, Two}
use Rattle.migration_types.specs.Receipts.{Name}
use Rattle.migration_types.specs.Sessions.{Recorded}
use Rattle.audit_model.specs.declared.reasons.PageReason.{PageReason}
use Rattle.audit_model.specs.declared.reasons.PageReason.TheVariants as page
use Rattle.audit_model.specs.declared.reasons.ShapeReason.{ShapeReason}
use Rattle.audit_model.specs.declared.reasons.ShapeReason.TheVariants as shape
use Rattle.audit_model.specs.Names.{if_there, same_log}
use Rattle.audit_model.specs.Reasons.{page_reasons}
use Rattle.audit_model.specs.Shape.{delivery, passes}
use Rattle.page_facts.specs.Tables.{first_before}
use Rattle.audit_report.specs.declared.report.Report.{Report}
use Rattle.audit_report.specs.declared.report.Report.TheVariants as report
use Rattle.session_story.specs.Causes.{came_to, cause_by}
use Rattle.session_story.specs.Kinds.{in_all, tally_of}
use Rattle.session_story.specs.Named.{named_by}
use Rattle.session_story.specs.Concerned.{resumed_by}
use Rattle.session_story.specs.Pages.{is_access_after}
use Rattle.session_story.specs.Explained.{is_used_by}
use Rattle.session_story.specs.RecordValues.{value_at}
use Rattle.session_story.specs.Waits.{next_in}
use Rattle.session_story.specs.declared.counting.Counts.{Counts}
use Rattle.session_story.specs.declared.causes.CauseKind.{CauseKind}
use Rattle.session_story.specs.declared.explanations.Explanation.{Explanation}
use Rattle.session_story.specs.declared.explanations.Explanation.TheVariants as explained
use Rattle.session_story.specs.declared.fault_stories.PageCause.{PageCause}
use Rattle.session_story.specs.declared.fault_stories.PageCause.TheVariants.{Sent, Placed, Zeroed, Again as PlacedAgain, Over as PlacedOver, Early as UsedEarly, Unplaced, Lost, Unrecorded}
use Rattle.session_story.specs.declared.fault_stories.Detail.{Detail}
use Rattle.session_story.specs.declared.fault_stories.Detail.TheVariants.{Instead, Seen, Other}
use Rattle.session_story.specs.declared.fault_stories.FaultStory.{FaultStory}
use Rattle.session_story.specs.declared.fault_stories.ApartStory.{ApartStory}
use Rattle.session_story.specs.declared.fault_stories.ShapeStory.{ShapeStory}
use Rattle.session_story.specs.declared.kinds.Kinds.{Kinds}
use Rattle.session_story.specs.declared.kinds.Tally.{Tally}
use Rattle.session_story.specs.declared.looks.Look.{Look}
use Rattle.session_story.specs.declared.pages.Handover.{Handover}
use Rattle.session_story.specs.declared.pages.PageStory.{PageStory}
use Rattle.story_words.specs.declared.sentences.Sentence.{Sentence}
use Rattle.story_words.specs.declared.sentences.Sentence.TheVariants as say
use Rattle.session_story.specs.declared.topic_stories.LineStory.{LineStory}
use Rattle.session_story.specs.declared.topic_stories.FullPageStory.{FullPageStory}
use Rattle.session_story.specs.declared.topic_stories.TopicStory.{TopicStory}
use Rattle.session_story.specs.declared.topic_stories.TopicStory.TheVariants as told
use Rattle.session_story.specs.declared.values.CellValue.{CellValue}
use Rattle.session_story.specs.declared.knots.Knot.{Knot}
use Rattle.session_story.specs.declared.knots.Waiting.{Waiting}

abbrev pub listed : Option Sentence → List Sentence
listed None = []
listed (Some sentence) = sentence ∷ []

-- ---- contents that are not the page's

-- what a record has in a cell whose value in the page is another at the halt, if it has contents
abbrev pub contents_of : Recorded → Name → CellValue → Option Sentence
contents_of s name at_halt = option_map (λ value. say.Contents name value at_halt) (value_at s name at_halt.cell)

-- the first sending of the page that this record of the source sends
abbrev pub repeated_by : ℕ → Option SourceRec → ℕ
repeated_by n (Some (Again sending)) = sending
repeated_by n _ = n

abbrev pub first_sending : Recorded → ℕ → ℕ
first_sending s n = repeated_by n (slice_get s.source n)

-- for a `place`, what the first sending of its page has in a cell
abbrev pub origin_at : Recorded → ℕ → ℕ → ℕ → Option Sentence
origin_at s got cell sending = option_map (λ value. say.SentWith got value sending) (value_at s (Source, sending) cell)

abbrev pub origin_by : Recorded → ℕ → PagerRec → Option Sentence
origin_by s cell (Place page got contents) = if_there (λ sending. origin_at s got cell (first_sending s sending)) (delivery s got)
origin_by s cell _ = None

abbrev pub origin_of : Recorded → Name → ℕ → Option Sentence
origin_of s (Pager, n) cell = if_there (origin_by s cell) (slice_get s.pager n)
origin_of s _ cell = None

unfoldable pub contents_told : Recorded → Name → CellValue → List Sentence
contents_told s name at_halt = listed (contents_of s name at_halt) ++ listed (origin_of s name at_halt.cell)

-- ---- a fault

abbrev pub place_of : Option Look → Option ℕ
place_of None = None
place_of (Some look) = Some look.place

-- what is wrong with an early use, given the page's first placement, the look before the use that reaches furthest, and
-- the first look that reaches the placement
unfoldable pub early_told : Option ℕ → Option Look → Option ℕ → List Sentence
early_told None seen look = say.NotThere ∷ []
early_told (Some placement) seen look = say.Unreached placement ∷ say.FurthestLook (place_of seen) ∷ say.LateForUse look ∷ []

-- what is wrong with this placement over a release, the first use of its page
unfoldable pub over_told : ℕ → Option ℕ → Option Look → Option ℕ → List Sentence
over_told place None seen look = []
over_told place (Some release) seen look =
    say.ReleasedFirst release ∷ say.MayComeAfter place ∷ say.FurthestLook (place_of seen) ∷ say.LateForRelease look ∷ say.RightOrder ∷ []

unfoldable pub unseen_told : FaultStory → LogName → Option Look → List Sentence
unseen_told f Pager seen = over_told f.fault.place f.page.found.touch seen f.page.found.look
unseen_told f _ seen = early_told f.page.found.placement seen f.page.found.look

-- what is wrong if there is nothing else to say, given the page's last change before the halt and its first placement
unfoldable pub plain_told : PageReason → Option ℕ → Option ℕ → List Sentence
plain_told page.Given changed placement = say.ReleasedAtHalt ∷ say.ChangedLast changed ∷ []
plain_told page.Unfit changed placement = say.NotReleasedAtHalt ∷ say.ChangedLast changed ∷ []
plain_told page.Twice changed (Some placement) = say.PlacedBefore placement ∷ []
plain_told _ changed placement = []

-- what is wrong
unfoldable pub wrong_told : Recorded → FaultStory → Detail → List Sentence
wrong_told s f (Instead (Some held)) = say.OneMachine held ∷ []
wrong_told s f (Other (Some held)) = contents_told s (f.fault.log, f.fault.place) held
wrong_told s f (Seen look) = unseen_told f f.fault.log look
wrong_told s f _ = plain_told f.fault.reason f.page.changed f.page.found.placement

-- which record is faulty, and what is wrong with it
unfoldable pub faulty_told : Recorded → FaultStory → List Sentence
faulty_told s f = say.Wrong (f.fault.log, f.fault.place) ∷ [] ++ wrong_told s f f.detail

-- for a read at the source, that it is one
abbrev pub source_of : FaultStory → Option Sentence
source_of f = if is_used_by f.page.found.touch f.fault.place then None else Some say.AtSource

-- how a page goes wrong, with this record; or that no record explains what it has
abbrev pub goes_wrong : ℕ → CauseKind → Option Name → Sentence
goes_wrong page kind None = say.Unexplained page
goes_wrong page kind (Some name) = say.GoesWrong page kind name

-- the cause of a fault
abbrev pub cause_told : FaultStory → Sentence
cause_told f = goes_wrong f.page.page (cause_by f).kind (cause_by f).blamed

-- what is to be said of the cause of a wrong read
unfoldable pub wrongly_told : Recorded → FaultStory → PageCause → List Sentence
wrongly_told s f (Sent w) = contents_told s (Source, w.place) w.held
wrongly_told s f (Placed w) = contents_told s (Pager, w.place) w.held
wrongly_told s f (Zeroed q) = plain_told page.Unfit f.page.changed None
wrongly_told s f (PlacedAgain q) = plain_told page.Twice None f.page.found.placement
wrongly_told s f (PlacedOver q seen) = over_told q f.page.found.touch seen f.page.found.look
wrongly_told s f (UsedEarly n seen) = early_told f.page.found.placement seen f.page.found.look
wrongly_told s f Unplaced = say.CameTo (came_to f.page) ∷ []
wrongly_told s f (Lost l) = say.Keeps f.fault.place l.since ∷ [] ++ listed (source_of f)
wrongly_told s f Unrecorded = listed (source_of f)

-- the record at which the cause shows
abbrev pub shows_of : FaultStory → Sentence
shows_of f = say.Shows (f.fault.log, f.fault.place)

-- a fault, after its cause, if the story has that
unfoldable pub caused_told : Recorded → FaultStory → Option PageCause → List Sentence
caused_told s f None = faulty_told s f
caused_told s f (Some cause) = cause_told f ∷ [] ++ wrongly_told s f cause ++ (shows_of f ∷ [] ++ wrong_told s f f.detail)

unfoldable pub fault_told : Recorded → FaultStory → List Sentence
fault_told s f = caused_told s f f.cause

-- how an order of the records shows a fault
abbrev pub order_of : FaultStory → Sentence
order_of f = if f.in_every_order then say.EveryOrder f.fault.reason else say.ShownOrder f.fault.reason

-- ---- the story of a page

abbrev pub is_pull : PagerRec → Bool
is_pull (Pull down) = true
is_pull _ = false

-- whether the story tells the lane's delivery of a page: the pager takes this one, or there is no other
abbrev pub is_by_lane : Recorded → Option ℕ → Option ℕ → Bool
is_by_lane s None delivered = not (is_some delivered)
is_by_lane s (Some got) delivered = passes is_pull (slice_get s.pager got)

abbrev pub delivery_of : Recorded → PageStory → Sentence
delivery_of s page = if is_by_lane s page.got page.delivered then say.Delivery Lane page.by_lane else say.Delivery Link page.delivered

-- how a page came to the target
unfoldable pub way_told : Recorded → PageStory → Option ℕ → List Sentence
way_told s page halt =
    say.StoryOf page.page ∷ say.Change (is_some halt) page.changed ∷ say.Halt halt ∷ say.Sending page.sent ∷ delivery_of s page
    ∷ say.Taking page.got ∷ say.Placement page.found.placement ∷ []

-- the second placement of a page, if there is one
abbrev pub again_of : PageStory → Option Sentence
again_of page = option_map (λ n. say.SecondPlacement n) page.found.again

-- what became of a page at the target
unfoldable pub use_told : PageStory → List Sentence
use_told page = say.FirstLook page.found.look ∷ say.FirstUse page.found.releases page.found.touch ∷ []

unfoldable pub story_told : Recorded → PageStory → Handover → List Sentence
story_told s page handover = way_told s page handover.halt ++ listed (again_of page) ++ use_told page

-- ---- a record that does not have the right shape

-- the record that it names, if it names one
abbrev pub names_of : Recorded → Name → Option Sentence
names_of s name = option_map (λ named. say.Names name named) (named_by s name)

-- the `send` before it
abbrev pub second_of : Option ℕ → Option Sentence
second_of sent = option_map (λ n. say.SentBefore n) sent

-- the rule that it breaks
abbrev pub rule_of : Recorded → ShapeStory → ShapeReason → Option Sentence
rule_of s t shape.Phases = Some (say.OutOfPhase t.fault.place t.handover)
rule_of s t shape.Named = names_of s (t.fault.log, t.fault.place)
rule_of s t shape.Start = Some (say.Begins (t.fault.log, t.fault.place))
rule_of s t shape.SecondSend = second_of t.sent
rule_of s t shape.Both = None

-- the resume of a guest that the source starts again, and its first access after that
abbrev pub both_told : Recorded → Option ℕ → List Sentence
both_told s None = []
both_told s (Some resume) = say.ResumedToo resume ∷ say.FirstAccess (first_before (is_access_after resume) s.guest (length s.guest)) ∷ []

unfoldable pub shape_told : Recorded → ShapeStory → List Sentence
shape_told s t = say.Misshapen (t.fault.log, t.fault.place) ∷ [] ++ listed (rule_of s t t.fault.reason) ++ both_told s (resumed_by t)

-- ---- records that wait for one another

-- one sentence for each of these records, the first of which has this index
abbrev pub waits_told : Knot → ℕ → List Waiting → List Sentence
waits_told knot i [] = []
waits_told knot i (w ∷ waits) = say.Waits w (next_in knot i) ∷ waits_told knot (i + 1) waits

unfoldable pub knot_told : Knot → List Sentence
knot_told knot = say.NoOrder ∷ [] ++ waits_told knot 0 knot.waits.items

-- ---- a clean session

-- pages that were not placed; in the second version, those that were released at the target are counted apart
unfoldable pub unplaced_told : Version → Counts → List Sentence
unplaced_told One c = say.UnplacedPages c.unmoved ∷ []
unplaced_told Two c = say.FreshPages c.fresh ∷ say.OtherPages c.unmoved ∷ []

-- deliveries of the lane, if it has some
abbrev pub lane_of : ℕ → Option Sentence
lane_of n = if nat_lt 0 n then Some (say.LanePackets n) else None

unfoldable pub counts_told : Version → Counts → List Sentence
counts_told version c =
    say.Clean ∷ say.SentPages c.sent ∷ say.ZeroedPages c.zeroed ∷ [] ++ unplaced_told version c
    ++ (say.ReleasedPages c.released ∷ say.LeftPages c.left ∷ say.UsedPages c.used ∷ say.Reads c.reads ∷ say.Sendings c.sends c.pushes ∷ say.Repeats c.repeats ∷ say.UndeliveredPackets c.undelivered ∷ [])
    ++ listed (lane_of c.by_lane) ++ (say.DroppedPackets c.dropped ∷ say.Requests c.requests c.unheard ∷ say.Misses c.misses c.waits ∷ [])

-- ---- the report

abbrev pub more_of : ℕ → Option Sentence
more_of n = if n == 0 then None else Some (say.MoreFaulty n)

unfoldable pub faulty_page_told : Recorded → FaultStory → ℕ → List Sentence
faulty_page_told s f more = fault_told s f ++ (order_of f ∷ []) ++ story_told s f.page f.handover ++ listed (more_of more)

-- the faulty pages that misshapen records do not touch, if there are any: the first with its story
unfoldable pub apart_told : Recorded → Option ApartStory → List Sentence
apart_told s None = []
apart_told s (Some t) = say.Apart t.story.page.page ∷ [] ++ fault_told s t.story ++ story_told s t.story.page t.story.handover ++ listed (more_of t.more)

-- the story of a report
unfoldable pub explained_told : Recorded → Explanation → List Sentence
explained_told s (explained.Shape t apart) = shape_told s t ++ apart_told s apart
explained_told s (explained.Knot knot) = knot_told knot
explained_told s (explained.Faulty f more) = faulty_page_told s f more
explained_told s (explained.Clean counts) = counts_told s.version counts

-- ---- a page, or the record at a line

-- Whether it is known which orders show a fault of a page. The report has an order that shows its own fault. If there
-- are orders at all, each of them shows a fault that every order shows.
abbrev pub is_shown : Report → FaultStory → Bool
is_shown (report.Faulty line fault order many) f =
    f.in_every_order || (same_log fault.log f.fault.log && (fault.place == f.fault.place))
is_shown _ f = false

abbrev pub shown_of : Report → FaultStory → Option Sentence
shown_of r f = if is_shown r f then Some (order_of f) else None

unfoldable pub first_fault_told : Recorded → Report → Option FaultStory → List Sentence
first_fault_told s r None = []
first_fault_told s r (Some f) = fault_told s f ++ listed (shown_of r f)

-- the faults of a page for a reason, if there are some
abbrev pub kind_of : PageReason → Tally → Option Sentence
kind_of reason t = option_map (λ first. say.FaultsFor reason t.count first) t.first

abbrev pub kind_told : Kinds → PageReason → List Sentence
kind_told k reason = listed (kind_of reason (tally_of reason k))

-- all faults of a page by kind, if there are several
unfoldable pub kinds_told : ℕ → Kinds → List Sentence
kinds_told page k = if nat_lt 1 (in_all k) then say.Faults page (in_all k) ∷ [] ++ flat_map (kind_told k) page_reasons else []

abbrev pub verdict_of : FullPageStory → Sentence
verdict_of t = say.Verdict t.story.page (is_some t.fault)

-- the story of a page
unfoldable pub page_told : Recorded → Report → FullPageStory → List Sentence
page_told s r t = verdict_of t ∷ [] ++ first_fault_told s r t.fault ++ kinds_told t.story.page t.kinds ++ story_told s t.story t.handover

unfoldable pub page_topic : Recorded → Report → ℕ → Option FullPageStory → List Sentence
page_topic s r number None = say.NoPage number s.geometry.pages ∷ []
page_topic s r number (Some t) = page_told s r t

-- the record at a line, and what is wrong with its shape, if the story has that
unfoldable pub record_told : Recorded → Name → Option ShapeStory → List Sentence
record_told s name None = say.Stands name ∷ []
record_told s name (Some t) = shape_told s t

-- the story of the page that a record is about, if it is about one
unfoldable pub its_page_told : Recorded → Report → Option FullPageStory → List Sentence
its_page_told s r None = []
its_page_told s r (Some t) = page_told s r t

unfoldable pub line_topic : Recorded → Report → ℕ → Option LineStory → List Sentence
line_topic s r line None = say.NoRecord line ∷ []
line_topic s r line (Some t) = record_told s (t.log, t.place) t.shape ++ its_page_told s r t.page

-- the story of a session with this report
unfoldable pub told_in_full : Recorded → Report → TopicStory → List Sentence
told_in_full s r (told.Report e) = explained_told s e
told_in_full s r (told.Page number t) = page_topic s r number t
told_in_full s r (told.Line line t) = line_topic s r line t

-- ---- the first sentences: the cause of what is wrong, or that nothing is

-- a fault: its cause and where that shows, or if the story has none, the faulty record and what is wrong with it
unfoldable pub caused_first : Recorded → FaultStory → Option PageCause → List Sentence
caused_first s f None = faulty_told s f
caused_first s f (Some cause) = cause_told f ∷ shows_of f ∷ []

unfoldable pub explained_first : Recorded → Explanation → List Sentence
explained_first s (explained.Shape t apart) = shape_told s t
explained_first s (explained.Knot knot) = say.NoOrder ∷ []
explained_first s (explained.Faulty f more) = caused_first s f f.cause
explained_first s (explained.Clean counts) = say.Clean ∷ []

unfoldable pub fault_first : Recorded → Option FaultStory → List Sentence
fault_first s None = []
fault_first s (Some f) = caused_first s f f.cause

unfoldable pub page_first : Recorded → ℕ → Option FullPageStory → List Sentence
page_first s number None = say.NoPage number s.geometry.pages ∷ []
page_first s number (Some t) = verdict_of t ∷ [] ++ fault_first s t.fault

unfoldable pub line_first : Recorded → ℕ → Option LineStory → List Sentence
line_first s line None = say.NoRecord line ∷ []
line_first s line (Some t) = record_told s (t.log, t.place) t.shape

unfoldable pub told_first : Recorded → TopicStory → List Sentence
told_first s (told.Report e) = explained_first s e
told_first s (told.Page number t) = page_first s number t
told_first s (told.Line line t) = line_first s line t
