-- Which faults every order of the records shows.
use Rattle.std.proofs.Common.{◌≡◌, ℕ, ◌<◌, ◌≤◌, ◌⊎◌, inl, inr, true, false, List, length, Option, Some, None, refl, sym, ap, ◌∙◌, subst, arith, eqb-true}
use Rattle.std.specs.Prelude.{slice_get}
use Rattle.std.proofs.lemmas.Bool.{cases_lt}
use Rattle.std.proofs.lemmas.Option.{slice_get_within}
use Rattle.migration_types.specs.declared.records.LogName.{LogName}
use Rattle.migration_types.specs.declared.records.LogName.TheVariants.{Guest, Source, Link, Lane, Pager}
use Rattle.migration_types.specs.declared.records.GuestRec.{GuestRec}
use Rattle.migration_types.specs.declared.records.GuestRec.TheVariants.{Read, Write, Release, Miss, Halt, Resume, See}
use Rattle.migration_types.specs.declared.records.SourceRec.{SourceRec}
use Rattle.migration_types.specs.declared.records.PagerRec.{PagerRec}
use Rattle.migration_types.specs.declared.records.PagerRec.TheVariants.{Got, Pull, Ready, Fault, Join, Want, Place, Zero, Skip, All}
use Rattle.migration_types.specs.Receipts.{Name}
use Rattle.migration_types.specs.Sessions.{Recorded}
use Rattle.audit_model.specs.declared.reasons.PageReason.{PageReason}
use Rattle.audit_model.specs.declared.reasons.PageReason.TheVariants.{Read as WrongRead, Early, Given, Stale, Twice, Altered, Unfit, Over}
use Rattle.audit_model.specs.Names.{if_there}
use Rattle.audit_model.specs.Mergings.{IsMerging, Cursors, at_start}
use Rattle.audit_model.specs.World.{world_after, pager_demand, if_record}
use Rattle.audit_model.specs.Shape.{IsRightShape, is_placement_of, earlier}
use Rattle.audit_model.specs.Certificates.{is_access_of, IsLateTouch}
use Rattle.audit_model.specs.Faults.{IsEarly, GuestFault, SourceFault, PagerFault, if_fault, IsPageFault}
use Rattle.audit_model.specs.Delayed.{IsDelayed, later}
use Rattle.audit_model.specs.Laws.{BreaksAt, UnplacedBefore}
use Rattle.audit_model.specs.Walks.{next, cursors_from}
use Rattle.audit_model.specs.Worlds.{IsConsistentCut}
use Rattle.audit_model.proofs.Clean.{early_breaks, fault_over, IsOverPlacement, false_if_not_true, clash}
use Rattle.audit_model.proofs.Consistent.{next_is_cut}
use Rattle.audit_model.proofs.Cuts.{merging_walks}
use Rattle.audit_model.proofs.Entries.{itself as release_touches}
use Rattle.audit_model.proofs.History.{earlier_true, earlier_witness}
use Rattle.audit_model.proofs.Orders.{is_at}
use Rattle.audit_model.proofs.Touched.{touched_true}
use Rattle.audit_model.proofs.Unsafe.{faults_break, unplaced_breaks}
use Rattle.audit_model.proofs.Walked.{passed, walk_at}
use Rattle.page_facts.specs.declared.findings.Findings.{Findings}
use Rattle.page_facts.specs.Findings.{IsFindings}
use Rattle.page_facts.specs.PageFaults.{page_at}
use Rattle.page_facts.proofs.Before.{first_none, first_some, IsFirstAt}
use Rattle.page_facts.proofs.RightEntry.{late_first}
use Rattle.migration_types.specs.Paged.{guest_page, pager_page}
use Rattle.migration_types.specs.declared.cert.Run.{Run}
use Rattle.page_facts.specs.declared.page_fault.PageFault.{PageFault}
use Rattle.audit_report.specs.declared.report.Report.{Report}
use Rattle.audit_report.specs.declared.report.Report.TheVariants.{Clean, Shape, Knot, Faulty}
use Rattle.audit_report.specs.Reports.{IsReport}
use Rattle.audit_report.specs.Dependence.{NeverBefore}
use Rattle.audit_report.proofs.Depending.{delayed_above, never_before}
use Rattle.session_story.specs.Explained.{IsInEveryOrder}
use Rattle.session_story.specs.inner.Late.{late_for, before_placement, behind_touch}

access_page : (page : ℕ) (r : GuestRec) → is_access_of page r ≡ true → guest_page r ≡ Some page
access_page page (Read v p c x) e = ap (λ q. Some q) (eqb-true p page e)
access_page page (Write v p c x) e = ap (λ q. Some q) (eqb-true p page e)
access_page page (Release v p) e = absurd (cc)
access_page page (Miss v p) e = absurd (cc)
access_page page Halt e = absurd (cc)
access_page page (Resume k) e = absurd (cc)
access_page page (See k) e = absurd (cc)

placed_page : (page : ℕ) (r : PagerRec) → is_placement_of page r ≡ true → pager_page r ≡ Some page
placed_page page (Place p got content) e = ap (λ q. Some q) (eqb-true p page e)
placed_page page (Zero p) e = ap (λ q. Some q) (eqb-true p page e)
placed_page page (Got k) e = absurd (cc)
placed_page page (Pull k) e = absurd (cc)
placed_page page Ready e = absurd (cc)
placed_page page (Fault k) e = absurd (cc)
placed_page page (Join k) e = absurd (cc)
placed_page page (Want p) e = absurd (cc)
placed_page page (Skip k) e = absurd (cc)
placed_page page All e = absurd (cc)

-- a page that the guest has touched at the target is not placed there
touched_breaks : (s : Recorded) (page : ℕ) (past : List Name) (r : PagerRec) → is_placement_of page r ≡ true → (world_after s past).touched page ≡ true → pager_demand s r (world_after s past) → ⊥
touched_breaks s page past (Place q got content) e touched d = let same : q ≡ page = eqb-true q page e in clash _ touched (subst (λ k. (world_after s past).touched k ≡ false) same d.is_untouched)
touched_breaks s page past (Zero q) e touched d = let same : q ≡ page = eqb-true q page e in clash _ touched (subst (λ k. (world_after s past).touched k ≡ false) same d.is_untouched)
touched_breaks s page past (Got k) e touched d = absurd (cc)
touched_breaks s page past (Pull k) e touched d = absurd (cc)
touched_breaks s page past Ready e touched d = absurd (cc)
touched_breaks s page past (Fault k) e touched d = absurd (cc)
touched_breaks s page past (Join k) e touched d = absurd (cc)
touched_breaks s page past (Want p) e touched d = absurd (cc)
touched_breaks s page past (Skip k) e touched d = absurd (cc)
touched_breaks s page past All e touched d = absurd (cc)

-- every order shows the fault, and in each the demand at its record fails
pub record IsAlways (s : Recorded) (reason : PageReason) (log : LogName) (n page : ℕ) : Type 0 where
  pub shown : IsInEveryOrder s reason n page
  pub breaks : (order : List Name) → IsMerging s order → BreaksAt s order (log, n)

-- every order shows it exactly where the placement depends on the use
pub record IsBySides (s : Recorded) (reason : PageReason) (log : LogName) (n page used placement : ℕ) : Type 0 where
  pub used_there : used < length s.guest
  pub placement_there : placement < length s.pager
  pub always : IsDelayed s (Guest, used) (Pager, placement) → IsAlways s reason log n page
  pub never : IsInEveryOrder s reason n page → NeverBefore s (Pager, placement) (Guest, used)

abbrev pub IsDecided : Recorded → PageReason → LogName → ℕ → ℕ → Option (ℕ × ℕ) → Type 0
IsDecided s reason log n page None = IsAlways s reason log n page
IsDecided s reason log n page (Some sides) = IsBySides s reason log n page sides.0 sides.1

module _ (s : Recorded) (shape : IsRightShape s) (page : ℕ) where
  -- what depends on a use does not stand before it
  module _ (used placement : ℕ) (first : IsFirstAt (λ (m : ℕ). is_placement_of page) s.pager (length s.pager) placement) where
    unplaced : IsDelayed s (Guest, used) (Pager, placement) → (order : List Name) → IsMerging s order → UnplacedBefore s order page (Guest, used)
    unplaced delayed order merging past stands m t at places h = go (cases_lt m placement) (cases_lt placement m)
      where
        go : (m < placement) ⊎ (placement ≤ m) → (placement < m) ⊎ (m ≤ placement) → ⊥
        go (inl lt) other = clash _ places (first.is_first m t at lt)
        go (inr ge) (inl lt) = never_before s shape (Pager, m) (Guest, used) (later delayed refl lt) order past merging stands h
        go (inr ge) (inr le) =
            let same : placement ≡ m = omega arith in
            never_before s shape (Pager, m) (Guest, used) (subst (λ k. IsDelayed s (Guest, used) (Pager, k)) same delayed) order past merging stands h

  module _ (n : ℕ) (r : GuestRec) (is : slice_get s.guest n ≡ Some r) (early : IsEarly s n r page) where
    -- an early use breaks where no placement stands before it
    unplaced_fails : (order : List Name) → IsMerging s order → UnplacedBefore s order page (Guest, n) → BreaksAt s order (Guest, n)
    unplaced_fails order merging none past stands d = early_breaks s shape order merging past n page r is early stands absent d
      where
        at : Cursors
        at = cursors_from at_start past

        absent : (world_after s past).placed page ≡ false
        absent =
            let here = is_at s shape order merging past (Guest, n) stands in
            here.0.world.placed_is page
            ∙ false_if_not_true _ (λ e.
            let w = earlier_witness (is_placement_of page) s.pager (cursors_from at_start past Pager) e in
            let walks = (walk_at s at_start order past (Guest, n) (merging_walks s order merging) stands).0 in
            none past stands w.0 w.1 w.3 w.4 (passed s past (Pager, w.0) walks w.2))

    early_decided : (found : Findings) → IsFindings s page found → IsDecided s Early Guest n page (late_for Early n found)
    early_decided found are = go found.placement refl
      where
        go : (o : Option ℕ) → found.placement ≡ o → IsDecided s Early Guest n page (before_placement n o)
        go None e =
            let none = first_none (λ m. is_placement_of page) s.pager (length s.pager) (sym are.placement ∙ e) in
            record {
              shown = λ order merging past stands m t at places h. clash _ places (none m t at (slice_get_within s.pager m t at));
              breaks = λ order merging. unplaced_breaks s shape order merging n page r is early (λ m t at. none m t at (slice_get_within s.pager m t at));
            }
        go (Some placement) e =
            let first = first_some (λ m. is_placement_of page) s.pager (length s.pager) placement (sym are.placement ∙ e) in
            record {
              used_there = slice_get_within s.guest n r is;
              placement_there = first.below;
              always = λ delayed. record {
                shown = unplaced n placement first delayed;
                breaks = λ order merging. unplaced_fails order merging (unplaced n placement first delayed order merging);
              };
              never = λ every order past merging stands h. every order merging past stands placement first.by first.stands first.passes_test h;
            }

  module _ (n : ℕ) (r : PagerRec) (is : slice_get s.pager n ≡ Some r) (o : IsOverPlacement s n r page) where
    late : IsLateTouch s page o.over.release
    late = record { by = Release o.over.vcpu page; stands = o.over.stands; is_touch = release_touches page; is_late = o.over.is_late }

    -- a placement that depends on the release comes behind it
    over_fails : IsDelayed s (Guest, o.over.release) (Pager, n) → (order : List Name) → IsMerging s order → BreaksAt s order (Pager, n)
    over_fails delayed order merging past stands d = touched_breaks s page past r o.places touched (subst (λ x. if_record (pager_demand s) x (world_after s past)) is d)
      where
        taken : o.over.release < cursors_from at_start past Guest
        taken =
            let here = is_at s shape order merging past (Pager, n) stands in
            let c = cursors_from at_start past in
            let after : IsConsistentCut s (next c Pager) = next_is_cut s c (Pager, n) here.0.cut here.1 in
            go c here.1.is_next after (cases_lt o.over.release (c Guest))
          where
            go : (c : Cursors) → n ≡ c Pager → IsConsistentCut s (next c Pager) → (o.over.release < c Guest) ⊎ (c Guest ≤ o.over.release) → o.over.release < c Guest
            go c at after (inl lt) = lt
            go c at after (inr ge) =
                let low = delayed_above s (next c Pager) after (Guest, o.over.release) ge delayed in
                absurd (omega (arith, low, at))

        touched : (world_after s past).touched page ≡ true
        touched =
            let here = is_at s shape order merging past (Pager, n) stands in
            here.0.world.touched_is page ∙ touched_true s o.over.release (cursors_from at_start past Guest) page late taken

    over_decided : (found : Findings) → IsFindings s page found → IsDecided s Over Pager n page (late_for Over n found)
    over_decided found are = go found.touch refl
      where
        touch : found.touch ≡ Some o.over.release
        touch = are.touch ∙ late_first s page o.over.release late o.over.is_first

        first : IsFirstAt (λ (m : ℕ). is_placement_of page) s.pager (length s.pager) n
        first = record {
          by = r;
          stands = is;
          passes_test = o.places;
          below = slice_get_within s.pager n r is;
          is_first = λ m t at lt. false_if_not_true _ (λ e. clash _ (earlier_is m t at e lt) o.is_first);
        }
          where
            earlier_is : (m : ℕ) (t : PagerRec) → slice_get s.pager m ≡ Some t → is_placement_of page t ≡ true → m < n → earlier (is_placement_of page) s.pager n ≡ true
            earlier_is m t at e lt = earlier_true (is_placement_of page) s.pager m n t at e lt

        go : (u : Option ℕ) → found.touch ≡ u → IsDecided s Over Pager n page (behind_touch u n)
        go None e = absurd (let both : None ≡ Some o.over.release = sym e ∙ touch in cc)
        go (Some used) e =
            let both : Some used ≡ Some o.over.release = sym e ∙ touch in
            let same : used ≡ o.over.release = cc in
            subst (λ k. IsBySides s Over Pager n page k n) (sym same) (record {
              used_there = slice_get_within s.guest o.over.release (Release o.over.vcpu page) o.over.stands;
              placement_there = first.below;
              always = λ delayed. record {
                shown = λ release is_first order merging.
                    let two : Some o.over.release ≡ Some release = sym (late_first s page o.over.release late o.over.is_first) ∙ is_first in
                    let one : o.over.release ≡ release = cc in
                    subst (λ k. UnplacedBefore s order page (Guest, k)) one (unplaced o.over.release n first delayed order merging);
                breaks = over_fails delayed;
              };
              never = λ every order past merging stands h. every o.over.release (late_first s page o.over.release late o.over.is_first) order merging past stands n r is o.places h;
            })

-- of a fault of a page
module _ (s : Recorded) (shape : IsRightShape s) (page : ℕ) (found : Findings) (are : IsFindings s page found) where
  other : (reason : PageReason) (log : LogName) (n : ℕ) → (reason ≡ Early → ⊥) → (reason ≡ Over → ⊥) → IsInEveryOrder s reason n page → IsPageFault s reason (log, n) → IsAlways s reason log n page
  other reason log n not_early not_over shown f = record { shown = shown; breaks = λ order merging. faults_break s shape order merging reason (log, n) not_early not_over f }

  decided : (reason : PageReason) (log : LogName) (n : ℕ) → IsPageFault s reason (log, n) → page_at s (log, n) ≡ Some page → IsDecided s reason log n page (late_for reason n found)
  decided WrongRead log n f of = other WrongRead log n (λ e. cc) (λ e. cc) tt f
  decided Given log n f of = other Given log n (λ e. cc) (λ e. cc) tt f
  decided Stale log n f of = other Stale log n (λ e. cc) (λ e. cc) tt f
  decided Twice log n f of = other Twice log n (λ e. cc) (λ e. cc) tt f
  decided Altered log n f of = other Altered log n (λ e. cc) (λ e. cc) tt f
  decided Unfit log n f of = other Unfit log n (λ e. cc) (λ e. cc) tt f
  decided Early Guest n f of = go (slice_get s.guest n) refl f of
    where
      go : (o : Option GuestRec) → slice_get s.guest n ≡ o → if_fault (GuestFault s Early n) o → if_there guest_page o ≡ Some page → IsDecided s Early Guest n page (late_for Early n found)
      go None is f of = absurd f
      go (Some r) is f of =
          let both : Some f.0 ≡ Some page = sym (access_page f.0 r f.1.is_access) ∙ of in
          let same : f.0 ≡ page = cc in
          early_decided s shape page n r is (subst (λ p. IsEarly s n r p) same f.1) found are
  decided Early Source n f of = absurd (go (slice_get s.source n) f)
    where
      go : (o : Option SourceRec) → if_fault (SourceFault s Early) o → ⊥
      go None f = f
      go (Some r) f = f
  decided Early Link n f of = absurd f
  decided Early Lane n f of = absurd f
  decided Early Pager n f of = absurd (go (slice_get s.pager n) f)
    where
      go : (o : Option PagerRec) → if_fault (PagerFault s Early n) o → ⊥
      go None f = f
      go (Some r) f = f
  decided Over Guest n f of = absurd (go (slice_get s.guest n) f)
    where
      go : (o : Option GuestRec) → if_fault (GuestFault s Over n) o → ⊥
      go None f = f
      go (Some r) f = f
  decided Over Source n f of = absurd (go (slice_get s.source n) f)
    where
      go : (o : Option SourceRec) → if_fault (SourceFault s Over) o → ⊥
      go None f = f
      go (Some r) f = f
  decided Over Link n f of = absurd f
  decided Over Lane n f of = absurd f
  decided Over Pager n f of = go (slice_get s.pager n) refl f of
    where
      go : (o : Option PagerRec) → slice_get s.pager n ≡ o → if_fault (PagerFault s Over n) o → if_there pager_page o ≡ Some page → IsDecided s Over Pager n page (late_for Over n found)
      go None is f of = absurd f
      go (Some r) is f of =
          let over = fault_over s n r f in
          let both : Some over.0 ≡ Some page = sym (placed_page over.0 r over.1.places) ∙ of in
          let same : over.0 ≡ page = cc in
          over_decided s shape page n r is (subst (λ p. IsOverPlacement s n r p) same over.1) found are

  -- as the code has it
  pub decided_as : (reason : PageReason) (log : LogName) (n : ℕ) → IsPageFault s reason (log, n) → page_at s (log, n) ≡ Some page → (sides o : Option (ℕ × ℕ)) → sides ≡ late_for reason n found → sides ≡ o → IsDecided s reason log n page o
  decided_as reason log n f of sides o is e = subst (λ (x : Option (ℕ × ℕ)). IsDecided s reason log n page x) (sym is ∙ e) (decided reason log n f of)

-- ---- by the report

-- a session of the right shape that has an order and a fault of a page has a report of it
pub no_order : (s : Recorded) (r : Report) → IsReport s r → ((line : ℕ) (fault : PageFault) (order : List Run) (many : ℕ) → r ≡ Faulty line fault order many → ⊥) → (reason : PageReason) (name : Name) → IsPageFault s reason name → IsRightShape s → (order : List Name) → IsMerging s order → ⊥
no_order s (Clean cert) is other reason name f shape order merging = is.1.has_no_fault reason name f
no_order s (Shape fault) is other reason name f shape order merging = clash _ (shape fault.reason (fault.log, fault.place)) is.is_first.is_wrong
no_order s (Knot left found) is other reason name f shape order merging = is.1.has_no_merging (order, merging)
no_order s (Faulty line fault runs many) is other reason name f shape order merging = other line fault runs many refl

pub in_none : (s : Recorded) → ((order : List Name) → IsMerging s order → ⊥) → (reason : PageReason) (n page : ℕ) → IsInEveryOrder s reason n page
in_none s none Early n page = λ order merging. absurd (none order merging)
in_none s none Over n page = λ release is order merging. absurd (none order merging)
in_none s none WrongRead n page = tt
in_none s none Given n page = tt
in_none s none Stale n page = tt
in_none s none Twice n page = tt
in_none s none Altered n page = tt
in_none s none Unfit n page = tt

pub reported_shape : (s : Recorded) (r : Report) (line : ℕ) (fault : PageFault) (order : List Run) (many : ℕ) → r ≡ Faulty line fault order many → IsReport s r → IsRightShape s
reported_shape s r line fault order many e is = (subst (λ (x : Report). IsReport s x) e is).0
