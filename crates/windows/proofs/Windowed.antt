-- What is written by marks that are right is the window.
use Rattle.std.proofs.Common.{◌≡◌, ℕ, ◌-◌, Bool, List, map, refl, ap, ◌∙◌, subst}
use Rattle.std.specs.Prelude.{IfErr, IfOk, Result, Ok, Err}
use Rattle.migration_types.specs.declared.records.LogName.TheVariants.{Guest, Source, Link, Lane, Pager}
use Rattle.migration_types.specs.declared.records.GuestRec.{GuestRec}
use Rattle.migration_types.specs.declared.records.GuestRec.TheVariants.{Read, Write, Release, Miss, Halt, Resume, See}
use Rattle.migration_types.specs.declared.records.SourceRec.{SourceRec}
use Rattle.migration_types.specs.declared.records.SourceRec.TheVariants.{Halted, State, Send, Again, Ask, Done, Back}
use Rattle.migration_types.specs.declared.records.LinkRec.{LinkRec}
use Rattle.migration_types.specs.declared.records.LinkRec.TheVariants.{Down, Up}
use Rattle.migration_types.specs.declared.records.LaneRec.{LaneRec}
use Rattle.migration_types.specs.declared.records.LaneRec.TheVariants.{Down as LaneDown}
use Rattle.migration_types.specs.declared.records.PagerRec.{PagerRec}
use Rattle.migration_types.specs.declared.records.PagerRec.TheVariants.{Got, Pull, Ready, Fault, Join, Want, Place, Zero, Skip, All}
use Rattle.migration_types.specs.Extents.{Extent}
use Rattle.migration_types.specs.Sessions.{Recorded}
use Rattle.text_lines.specs.Text.{ended}
use Rattle.session_grammar.specs.Grammar.{session_lines}
use Rattle.session_grammar.specs.Records.{guest_line, source_line, link_line, lane_line, pager_line}
use Rattle.recordings.specs.Wide.{extent_of}
use Rattle.audit_model.specs.Windows.{keeps_init, Numbers, new_page, kept_in, rank, marks, window, new_guest, new_source, new_link, new_lane, new_pager}
use Rattle.windows.specs.declared.marking.Guide.{Guide}
use Rattle.windows.specs.declared.marking.Marks.{Marks}
use Rattle.windows.specs.declared.sections.Section.{Section}
use Rattle.windows.specs.declared.sections.Sections.{Sections}
use Rattle.windows.specs.declared.pages.Window.{Window}
use Rattle.windows.specs.declared.visiting.Marking.{Marking}
use Rattle.windows.specs.declared.visiting.Writing.{Writing}
use Rattle.windows.specs.inner.Settled.{IsFoundIn, IsNotWrittenBy, IsUnwritten, Meets}
use Rattle.windows.specs.Pages.{numbers_of}
use Rattle.windows.specs.inner.Guided.{reach_by, new_guest_by, new_source_by, new_link_by, new_lane_by, new_pager_by}
use Rattle.windows.specs.inner.Met.{AreRight, Found, AreSame, Written, IsSection, lines_of}
use Rattle.windows.specs.declared.faults.CutFault.{CutFault}
use Rattle.windows.specs.declared.faults.CutFault.TheVariants.{Recording, Outside, Changed, Memory}
use Rattle.windows.specs.declared.session.WindowText.{WindowText}
use Rattle.windows.specs.inner.Parts.{AreSections}
use Rattle.windows.specs.Origins.{origins}
use Rattle.windows.specs.Cuts.{IsCutOf, IsOf, IsBeyond, IsOutside, IsWindowOf}
use Rattle.windows.proofs.Rights.{reach_same, right, map_same}

lines_as : {A : Type 0} (line : A → List ℕ) (f g : A → A) (ms ns : List Bool) (log : List A) (section : Section) → ((x : A) → f x ≡ g x) → ms ≡ ns → IsSection section (lines_of line f ms log) → IsSection section (map line (map g (kept_in ns log)))
lines_as line f g ms ns log section same marks is = subst (IsSection section) (ap (λ m. map line (map f (kept_in m log))) marks ∙ ap (map line) (map_same f g (kept_in ns log) same)) is

module _ (number : Numbers) (s : Recorded) (known found : Marks) (f : Found number known found s) (same : AreSame known found) where
  r : AreRight number known s
  r = right number s known found f same

  to_guest : (n : ℕ) → rank known.guest.kept n ≡ rank (marks s number Guest) n
  to_guest n = ap (λ m. rank m n) r.guest

  to_source : (n : ℕ) → rank known.source.kept n ≡ rank (marks s number Source) n
  to_source n = ap (λ m. rank m n) r.source

  to_link : (n : ℕ) → rank known.link n ≡ rank (marks s number Link) n
  to_link n = ap (λ m. rank m n) r.link

  to_lane : (n : ℕ) → rank known.lane n ≡ rank (marks s number Lane) n
  to_lane n = ap (λ m. rank m n) r.lane

  to_pager : (n : ℕ) → rank known.pager.kept n ≡ rank (marks s number Pager) n
  to_pager n = ap (λ m. rank m n) r.pager

  guest_rec : (x : GuestRec) → new_guest_by number known x ≡ new_guest s number x
  guest_rec (Read vcpu p c value) = refl
  guest_rec (Write vcpu p c value) = refl
  guest_rec (Release vcpu p) = refl
  guest_rec (Miss vcpu p) = refl
  guest_rec Halt = refl
  guest_rec (Resume ready) = ap Resume (to_pager ready)
  guest_rec (See placement) = ap See (to_pager (reach_by known placement - 1) ∙ ap (λ n. rank (marks s number Pager) (n - 1)) (reach_same number s known found f same placement))

  source_rec : (x : SourceRec) → new_source_by number known x ≡ new_source s number x
  source_rec (Halted halt) = ap Halted (to_guest halt)
  source_rec State = refl
  source_rec (Send p content) = refl
  source_rec (Again sending) = ap Again (to_source sending)
  source_rec (Ask up) = ap Ask (to_link up)
  source_rec Done = refl
  source_rec Back = refl

  link_rec : (x : LinkRec) → new_link_by known x ≡ new_link s number x
  link_rec (Down sending) = ap Down (to_source sending)
  link_rec (Up asking) = ap Up (to_pager asking)

  lane_rec : (x : LaneRec) → new_lane_by known x ≡ new_lane s number x
  lane_rec (LaneDown sending) = ap LaneDown (to_source sending)

  pager_rec : (x : PagerRec) → new_pager_by number known x ≡ new_pager s number x
  pager_rec (Got down) = ap Got (to_link down)
  pager_rec (Pull down) = ap Pull (to_lane down)
  pager_rec Ready = refl
  pager_rec (Fault miss) = ap Fault (to_guest miss)
  pager_rec (Join want) = ap Join (to_pager want)
  pager_rec (Want p) = refl
  pager_rec (Place p got content) = ap (λ n. Place (new_page (number p)) n content) (to_pager got)
  pager_rec (Zero p) = refl
  pager_rec (Skip got) = ap Skip (to_pager got)
  pager_rec All = refl

  pub sections : (count : ℕ) (written : Sections) → Written number known written s → AreSections written (window number count s)
  sections count written is = record {
    init = is.init;
    guest = lines_as guest_line (new_guest_by number known) (new_guest s number) known.guest.kept (marks s number Guest) s.guest written.guest guest_rec r.guest is.guest;
    source = lines_as source_line (new_source_by number known) (new_source s number) known.source.kept (marks s number Source) s.source written.source source_rec r.source is.source;
    link = lines_as link_line (new_link_by known) (new_link s number) known.link (marks s number Link) s.link written.link link_rec r.link is.link;
    lane = lines_as lane_line (new_lane_by known) (new_lane s number) known.lane (marks s number Lane) s.lane written.lane lane_rec r.lane is.lane;
    pager = lines_as pager_line (new_pager_by number known) (new_pager s number) known.pager.kept (marks s number Pager) s.pager written.pager pager_rec r.pager is.pager;
  }

-- why a pass that writes met no window, where it went by this guide
pub not_written : {W F : Type 0} (Is : Recorded → Type 0) (guide : Guide) (writing : Writing W) (w : Window) (marks : Marks) (s : Recorded) (fault : CutFault F) → guide ≡ record { window = w; known = marks } → Is s → writing.guide ≡ guide → Meets writing s → IsUnwritten writing w fault → IsNotWrittenBy Is w marks fault
not_written Is guide writing w marks s (Recording fault) by is at met h = tt
not_written Is guide writing w marks s Outside by is at met h = record { s = s; is = is; outside = subst (IsBeyond w) (ap (λ x. x.pages) met.found.extent) h }
not_written Is guide writing w marks s Changed by is at met h =
    let same : writing.guide ≡ record { window = w; known = marks } = at ∙ by in
    record {
      s = s;
      is = is;
      found = writing.found;
      is_found = subst (λ g. Found (numbers_of g.window) g.known writing.found s) same met.found;
      others = subst (λ g. ¬ AreSame g.known writing.found) same h;
    }
not_written Is guide writing w marks s Memory by is at met h = tt

pub unwritten : {W F : Type 0} (Is : Recorded → Type 0) (guide : Guide) (writing : Writing W) (w : Window) (marks : Marks) (s : Recorded) (r : Result WindowText (CutFault F)) → guide ≡ record { window = w; known = marks } → Is s → writing.guide ≡ guide → Meets writing s → IfErr r (IsUnwritten writing w) → IfErr r (IsNotWrittenBy Is w marks)
unwritten Is guide writing w marks s (Ok out) by is at met h = tt
unwritten Is guide writing w marks s (Err fault) by is at met h = not_written Is guide writing w marks s fault by is at met h

-- what it wrote is the window of what it met
pub written : {W F : Type 0} (Is : Recorded → Type 0) (guide : Guide) (writing : Writing W) (w : Window) (marks : Marks) (s : Recorded) (r : Result WindowText (CutFault F)) → guide ≡ record { window = w; known = marks } → Is s → writing.guide ≡ guide → Meets writing s → IfOk r (λ out. (s : Recorded) → Meets writing s → writing.guide.window ≡ w → IsWindowOf w s out) → IfOk r (IsCutOf Is w)
written Is guide writing w marks s (Ok out) by is at met cut = record { s = s; is = is; cut = cut s met (ap (λ g. g.window) (at ∙ by)) }
written Is guide writing w marks s (Err fault) by is at met cut = tt

-- what a pass that marks alone found, where it went by this guide
pub found_by : {W : Type 0} (Is : Recorded → Type 0) (guide : Guide) (marking : Marking W) (w : Window) (marks : Marks) (s : Recorded) → guide ≡ record { window = w; known = marks } → Is s → marking.guide ≡ guide → Found (numbers_of marking.guide.window) marking.guide.known marking.found s → IsOf w marking.found.machine.pages → IsFoundIn Is w marks marking.found
found_by Is guide marking w marks s by is at met within = record {
  s = s;
  is = is;
  is_found = subst (λ g. Found (numbers_of g.window) g.known marking.found s) (at ∙ by) met;
  inside = subst (IsOf w) (ap (λ x. x.pages) met.extent) within;
}

pub outside_by : {W : Type 0} (Is : Recorded → Type 0) (marking : Marking W) (w : Window) (s : Recorded) → Is s → Found (numbers_of marking.guide.window) marking.guide.known marking.found s → IsBeyond w marking.found.machine.pages → IsOutside Is w
outside_by Is marking w s is met beyond = record { s = s; is = is; outside = subst (IsBeyond w) (ap (λ x. x.pages) met.extent) beyond }

-- where a pass found the marks again that it went by, what it wrote is the window
pub window_of : {W : Type 0} (writing : Writing W) (w : Window) (s : Recorded) (out : WindowText) → Meets writing s → writing.guide.window ≡ w → AreSame writing.guide.known writing.found → IsOf w writing.found.machine.pages →
    ((s : Recorded) → AreSections writing.sections s → writing.found.machine.version ≡ s.version → extent_of (record writing.found.machine { pages = w.count }) ≡ s.geometry → out.text.items ≡ ended (session_lines s)) →
    ((number : Numbers) (s : Recorded) → writing.found.machine.version ≡ s.version → writing.found.init ≡ map (keeps_init number) s.init → AreRight number writing.guide.known s → out.lines.items ≡ origins number s) →
    IsWindowOf w s out
window_of writing w s out met by same of text lines =
    let f : Found (numbers_of w) writing.guide.known writing.found s = subst (λ v. Found (numbers_of v) writing.guide.known writing.found s) by met.found in
    let written : Written (numbers_of w) writing.guide.known writing.sections s = subst (λ v. Written (numbers_of v) writing.guide.known writing.sections s) by met.written in
    record {
      within = subst (IsOf w) (ap (λ x. x.pages) f.extent) of;
      text_is = text (window (numbers_of w) w.count s) (sections (numbers_of w) s writing.guide.known writing.found f same w.count writing.sections written) f.version (ap (λ (e : Extent). record e { pages = w.count }) f.extent);
      lines_are = lines (numbers_of w) s f.version f.init (right (numbers_of w) s writing.guide.known writing.found f same);
    }
