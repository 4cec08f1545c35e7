-- The fault in a story is that of a record that the session has.
use Rattle.std.proofs.Common.{◌≡◌, ℕ, ◌<◌, List, length, Option, Some, None, refl}
use Rattle.std.specs.Prelude.{slice_get, MatchOption}
use Rattle.std.proofs.lemmas.Option.{slice_get_within}
use Rattle.migration_types.specs.declared.records.LogName.TheVariants.{Guest, Source, Link, Lane, Pager}
use Rattle.migration_types.specs.Paged.{guest_page, source_page, pager_page}
use Rattle.migration_types.specs.Receipts.{Name}
use Rattle.migration_types.specs.Sessions.{Recorded, log_length}
use Rattle.audit_model.specs.Names.{if_there}
use Rattle.page_facts.specs.PageFaults.{page_at, IsClean}
use Rattle.audit_report.specs.declared.report.Report.{Report}
use Rattle.audit_report.specs.declared.report.Report.TheVariants as report
use Rattle.session_story.specs.Explained.{IsExplanation}
use Rattle.session_story.specs.Subjects.{page_of}
use Rattle.session_story.specs.Topics.{IsFirstFaultStory, IsTold, IsToldOfItsPage, IsToldOfLine, IsToldOfPage, apart_in, apart_story, fault_in, fault_of_page, fault_reported, page_of_line}
use Rattle.session_story.specs.declared.explanations.Explanation.{Explanation}
use Rattle.session_story.specs.declared.explanations.Explanation.TheVariants as explained
use Rattle.session_story.specs.declared.fault_stories.ApartStory.{ApartStory}
use Rattle.session_story.specs.declared.fault_stories.FaultStory.{FaultStory}
use Rattle.session_story.specs.declared.fault_stories.ShapeStory.{ShapeStory}
use Rattle.session_story.specs.declared.topic_stories.FullPageStory.{FullPageStory}
use Rattle.session_story.specs.declared.topic_stories.LineStory.{LineStory}
use Rattle.migration_types.specs.declared.topic.Topic.{Topic}
use Rattle.migration_types.specs.declared.topic.Topic.TheVariants as topic
use Rattle.session_story.specs.declared.topic_stories.TopicStory.{TopicStory}
use Rattle.session_story.specs.declared.topic_stories.TopicStory.TheVariants as told
use Rattle.session_answers.specs.inner.Faults.{IsFaultThere}

record_there : {A : Type 0} (page_of : A → Option ℕ) (log : List A) (n p : ℕ) → if_there page_of (slice_get log n) ≡ Some p → n < length log
record_there {A} page_of log n p e = go (slice_get log n) refl e
  where
    go : (o : Option A) → slice_get log n ≡ o → if_there page_of o ≡ Some p → n < length log
    go None is e = absurd (cc)
    go (Some r) is e = slice_get_within log n r is

-- a record that has a page is there
page_there : (s : Recorded) (name : Name) (p : ℕ) → page_at s name ≡ Some p → name.1 < log_length s name.0
page_there s (Guest, n) p e = record_there guest_page s.guest n p e
page_there s (Source, n) p e = record_there source_page s.source n p e
page_there s (Link, n) p e = absurd (cc)
page_there s (Lane, n) p e = absurd (cc)
page_there s (Pager, n) p e = record_there pager_page s.pager n p e

first_there : (s : Recorded) (page : ℕ) (o : Option FaultStory) → MatchOption o (IsClean s page) (IsFirstFaultStory s page) → IsFaultThere s o
first_there s page None h = tt
first_there s page (Some f) h = page_there s (f.fault.log, f.fault.place) f.page.page h.story.is_of

of_page : (s : Recorded) (number : ℕ) (t : Option FullPageStory) → IsToldOfPage s number t → IsFaultThere s (fault_of_page t)
of_page s number None h = tt
of_page s number (Some t) h = first_there s number t.fault h.1.fault

of_its_page : (s : Recorded) (page : Option ℕ) (t : Option FullPageStory) → IsToldOfItsPage s page t → IsFaultThere s (fault_of_page t)
of_its_page s None None h = tt
of_its_page s None (Some t) h = absurd (cc)
of_its_page s (Some page) None h = absurd h
of_its_page s (Some page) (Some t) h = first_there s page t.fault h.fault

of_line : (s : Recorded) (r : Report) (line : ℕ) (t : Option LineStory) → IsToldOfLine s r line t → IsFaultThere s (fault_of_page (page_of_line t))
of_line s r line None h = tt
of_line s r line (Some t) h = of_its_page s (page_of s (t.log, t.place)) t.page h.page

of_fault : (s : Recorded) (r : Report) (f : FaultStory) (more : ℕ) → IsExplanation s r (explained.Faulty f more) → IsFaultThere s (Some f)
of_fault s (report.Faulty line fault order many) f more h = page_there s (f.fault.log, f.fault.place) f.page.page h.0.story.is_of
of_fault s (report.Clean cert) f more h = absurd h
of_fault s (report.Shape fault) f more h = absurd h
of_fault s (report.Knot left found) f more h = absurd h

of_report : (s : Recorded) (r : Report) (e : Explanation) → IsExplanation s r e → IsFaultThere s (fault_reported e)
of_report s r (explained.Shape t apart) h = tt
of_report s r (explained.Knot knot) h = tt
of_report s r (explained.Faulty f more) h = of_fault s r f more h
of_report s r (explained.Clean counts) h = tt

-- the record of the fault in a story is there
pub fault_there : (s : Recorded) (r : Report) (t : Topic) (story : TopicStory) → IsTold s r t story → IsFaultThere s (fault_in story)
fault_there s r topic.Report (told.Report e) h = of_report s r e h
fault_there s r topic.Report (told.Page n t) h = absurd h
fault_there s r topic.Report (told.Line n t) h = absurd h
fault_there s r (topic.Page number) (told.Report e) h = absurd h
fault_there s r (topic.Page number) (told.Page n t) h = of_page s number t h.1
fault_there s r (topic.Page number) (told.Line n t) h = absurd h
fault_there s r (topic.Line line) (told.Report e) h = absurd h
fault_there s r (topic.Line line) (told.Page n t) h = absurd h
fault_there s r (topic.Line line) (told.Line n t) h = of_line s r line t h.1

of_apart : (s : Recorded) (r : Report) (t : ShapeStory) (apart : Option ApartStory) → IsExplanation s r (explained.Shape t apart) → IsFaultThere s (apart_story apart)
of_apart s r t None h = tt
of_apart s (report.Shape fault) t (Some a) h = page_there s (a.story.fault.log, a.story.fault.place) a.story.page.page h.1.story.is_of
of_apart s (report.Knot left found) t (Some a) h = absurd h
of_apart s (report.Faulty line fault order many) t (Some a) h = absurd h
of_apart s (report.Clean cert) t (Some a) h = absurd h

-- and that of the first fault that misshapen records do not touch
pub apart_there : (s : Recorded) (r : Report) (t : Topic) (story : TopicStory) → IsTold s r t story → IsFaultThere s (apart_in story)
apart_there s r topic.Report (told.Report (explained.Shape t apart)) h = of_apart s r t apart h
apart_there s r topic.Report (told.Report (explained.Knot knot)) h = tt
apart_there s r topic.Report (told.Report (explained.Faulty f more)) h = tt
apart_there s r topic.Report (told.Report (explained.Clean counts)) h = tt
apart_there s r topic.Report (told.Page n t) h = tt
apart_there s r topic.Report (told.Line n t) h = tt
apart_there s r (topic.Page number) (told.Report e) h = absurd h
apart_there s r (topic.Page number) (told.Page n t) h = tt
apart_there s r (topic.Page number) (told.Line n t) h = tt
apart_there s r (topic.Line line) (told.Report e) h = absurd h
apart_there s r (topic.Line line) (told.Page n t) h = tt
apart_there s r (topic.Line line) (told.Line n t) h = tt
