-- Tests of records for the faults of a page, and the tally of a test.
use Rattle.std.specs.Prelude.{◌≡◌, ℕ, ◌+◌, ◌==◌, Bool, false, not, ◌&&◌, ◌||◌, List, Option, Some, None, is_some, if◌then◌else◌}
use Rattle.std.specs.Str.{bytes_eq}
use Rattle.migration_types.specs.declared.records.GuestRec.{GuestRec}
use Rattle.migration_types.specs.declared.records.GuestRec.TheVariants.{Read, Release}
use Rattle.migration_types.specs.declared.records.SourceRec.{SourceRec}
use Rattle.migration_types.specs.declared.records.SourceRec.TheVariants.{Send}
use Rattle.migration_types.specs.declared.records.PagerRec.{PagerRec}
use Rattle.migration_types.specs.declared.records.PagerRec.TheVariants.{Place, Zero}
use Rattle.migration_types.specs.Sessions.{Recorded}
use Rattle.audit_model.specs.declared.reasons.PageReason.{PageReason}
use Rattle.audit_model.specs.declared.reasons.PageReason.TheVariants as reason
use Rattle.audit_model.specs.Certificates.{is_access_of}
use Rattle.audit_model.specs.Flat.{at_halt, flat}
use Rattle.audit_model.specs.Shape.{is_halt, is_placement_of, is_resume}
use Rattle.page_facts.specs.Tables.{first_before, or_here}
use Rattle.page_facts.specs.Findings.{IsFindings}
use Rattle.page_facts.specs.declared.findings.Findings.{Findings}
use Rattle.session_story.specs.Pages.{below}
use Rattle.session_story.specs.Scans.{how_many}
use Rattle.session_story.specs.inner.Cells.{IsPage}
use Rattle.session_story.specs.declared.kinds.Tally.{Tally}
use Rattle.session_story.specs.declared.kinds.Halted.{Halted}
use Rattle.session_story.specs.declared.pages.PageStory.{PageStory}

-- the tally of a test over the first n records of a log
pub record IsTallyBy {A : Type 0} (test : ℕ → A → Bool) (log : List A) (n : ℕ) (t : Tally) : Type 0 where
  pub count : t.count ≡ how_many test log n
  pub first : t.first ≡ first_before test log n

-- the tally after record n, which passes or not
pub record IsNoted (here : Bool) (n : ℕ) (old new : Tally) : Type 0 where
  pub count : new.count ≡ (if here then old.count + 1 else old.count)
  pub first : new.first ≡ or_here old.first here n

-- whether the page's first use at the target is a release that no look before it covers
abbrev pub is_uncovered : Option ℕ → Option ℕ → Bool
is_uncovered None look = false
is_uncovered (Some touch) look = not (is_some (below touch look))

abbrev pub comes_over : Findings → Bool
comes_over found = found.releases && is_uncovered found.touch found.look

-- a read of the page with another value than its cells have
abbrev pub reads_other : ℕ → (ℕ → ℕ) → GuestRec → Bool
reads_other page cells (Read vcpu p cell value) = (p == page) && not (value == cells cell)
reads_other page cells _ = false

-- whether guest record n is an early access of the page, given whether the guest is at the target and has released the
-- page there
abbrev pub is_early_by : PageStory → ℕ → Bool → Bool → GuestRec → Bool
is_early_by t n late freed r = is_access_of t.page r && (not freed && (late && not (is_some (below n t.found.look))))

-- both after a record
abbrev pub late_after : GuestRec → Bool → Bool
late_after r late = is_resume r || (late && not (is_halt r))

abbrev pub freed_by : ℕ → GuestRec → Bool → Bool → Bool
freed_by page (Release vcpu p) late freed = freed || (late && (p == page))
freed_by page _ late freed = freed

-- whether a record of the source, or of the pager, is a fault of the page for a reason
abbrev pub is_sent_fault : Halted → PageReason → SourceRec → Bool
is_sent_fault h reason.Given (Send p content) = (p == h.page) && h.found.released
is_sent_fault h reason.Stale (Send p content) = (p == h.page) && not (bytes_eq content h.cells.items)
is_sent_fault h reason r = false

abbrev pub is_placed_fault : Halted → PageReason → ℕ → PagerRec → Bool
is_placed_fault h reason.Twice n r = is_placement_of h.page r && is_some (below n h.found.placement)
is_placed_fault h reason.Altered n (Place p got content) = (p == h.page) && not (bytes_eq content h.cells.items)
is_placed_fault h reason.Unfit n (Zero p) = (p == h.page) && not h.found.released
is_placed_fault h reason.Over n r = is_placement_of h.page r && (not (is_some (below n h.found.placement)) && comes_over h.found)
is_placed_fault h reason n r = false

-- the page's cells at the halt, and what the logs say about it
pub record IsHalted (s : Recorded) (h : Halted) : Type 0 where
  pub cells : IsPage h.cells.items (flat s (at_halt s) h.page) s.geometry.cells
  pub found : IsFindings s h.page h.found
