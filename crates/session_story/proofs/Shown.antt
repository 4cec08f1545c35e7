-- Each cause of a read is shown by a merging.
use Rattle.std.proofs.Common.{◌≡◌, ℕ, ◌||◌, true, List, length, Option, Some, None, refl, sym, ap, ◌∙◌}
use Rattle.std.specs.Prelude.{slice_get}
use Rattle.std.proofs.lemmas.Bool.{leb-true}
use Rattle.std.proofs.lemmas.Option.{slice_get_within}
use Rattle.migration_types.specs.declared.records.LogName.TheVariants.{Guest, Pager}
use Rattle.migration_types.specs.declared.records.GuestRec.TheVariants.{Read}
use Rattle.migration_types.specs.Receipts.{Name}
use Rattle.migration_types.specs.Sessions.{Recorded}
use Rattle.audit_model.specs.declared.home.Home.{Home}
use Rattle.audit_model.specs.declared.home.Home.TheVariants.{AtSource, Nowhere, AtTarget}
use Rattle.audit_model.specs.Delayed.{IsFirstPlacement}
use Rattle.audit_model.specs.Flat.{freed, home}
use Rattle.audit_model.specs.Mergings.{HasMerging, at_start}
use Rattle.audit_model.specs.Shape.{IsRightShape, is_placement_of}
use Rattle.audit_model.specs.Walks.{cursors_from}
use Rattle.audit_model.specs.World.{world_after}
use Rattle.audit_model.proofs.Clean.{false_if_not_true, clash}
use Rattle.audit_model.proofs.FirstTouch.{IsFirstTouch}
use Rattle.audit_model.proofs.History.{AtSource≢AtTarget, earlier_true, earlier_witness, home_at_read}
use Rattle.audit_model.proofs.Cuts.{taken_before}
use Rattle.audit_model.proofs.Orders.{is_at}
use Rattle.page_facts.specs.Judged.{releases_at}
use Rattle.page_facts.proofs.Before.{first_none, first_some}
use Rattle.page_facts.proofs.RightEntry.{first_late}
use Rattle.session_story.specs.CauseLaws.{GivesIn, IsAbsentIn, IsNeverThere, Shows}
use Rattle.session_story.specs.Explained.{IsExplained, IsWrong, first_placement, first_touch, is_used_by, unplaced}
use Rattle.session_story.specs.Giving.{IsGiver}
use Rattle.session_story.specs.declared.fault_stories.PageCause.{PageCause}
use Rattle.session_story.specs.declared.fault_stories.PageCause.TheVariants.{Sent, Placed, Zeroed, Again, Over, Early, Unplaced, Lost, Unrecorded}
use Rattle.session_story.proofs.AbsentIn.{IsUnseenIn, absent_order, never_there}
use Rattle.session_story.proofs.GivingOrders.{giving_order, stays_left}
use Rattle.session_story.proofs.TargetCells.{puts_places}

-- the first use at the target
pub first_is : (s : Recorded) (page t : ℕ) → first_touch s page ≡ Some t → IsFirstTouch s page t
first_is s page t e = let f = first_late s page t e in record { touch = f.0; is_first = f.1 }

-- the first placement
pub placed_first : (s : Recorded) (page place : ℕ) → first_placement s page ≡ Some place → IsFirstPlacement s page place
placed_first s page place e =
    let f = first_some (λ m. is_placement_of page) s.pager (length s.pager) place e in
    record {
      by = f.by;
      stands = f.stands;
      places = f.passes_test;
      is_first = false_if_not_true _ (λ e. let w = earlier_witness (is_placement_of page) s.pager place e in clash _ w.4 (f.is_first w.0 w.1 w.3 w.2));
    }

module _ (s : Recorded) (shape : IsRightShape s) where
  -- where the guest has used a page at the target, it is there
  used_late : (n page v p c x : ℕ) → slice_get s.guest n ≡ Some (Read v p c x) → is_used_by (first_touch s page) n ≡ true → home s n ≡ AtTarget
  used_late n page v p c x reads used = go (first_touch s page) refl used
    where
      late : (h : Home) → home s n ≡ h → (AtSource ≡ h → ⊥) → home s n ≡ AtTarget
      late AtSource at left = absurd (left refl)
      late Nowhere at left = absurd (home_at_read s shape n v p c x reads at)
      late AtTarget at left = at

      go : (o : Option ℕ) → first_touch s page ≡ o → is_used_by o n ≡ true → home s n ≡ AtTarget
      go None e used = absurd (cc)
      go (Some t) e used =
          let first = first_is s page t e in
          late (home s n) refl (λ at. stays_left s t n (leb-true t n used) (λ source. AtSource≢AtTarget (sym source ∙ first.touch.is_late)) (sym at))

  module _ (some : HasMerging s) where
    pub given : (n q : ℕ) → home s n ≡ AtTarget → IsGiver s n q → (order : List Name) × GivesIn s n q order
    given n q late giver =
        let done = giving_order s shape n giver.vcpu giver.page giver.cell giver.value giver.reads late q giver.first.gives some.0 some.1 in
        let g = done.1 in
        let w = world_after s g.past in
        let may = giver.first.gives in
        let here = is_at s shape done.0 g.merges g.past (Guest, n) g.stands in
        let taken = taken_before s done.0 g.merges g.past (Guest, n) g.stands Pager q g.is_placed in (
          done.0,
          record {
            read = record {
              merging = g.merges;
              vcpu = giver.vcpu;
              page = giver.page;
              cell = giver.cell;
              value = giver.value;
              world = w;
              at = record { earlier = g.past; stands = g.stands; is = giver.reads; world = refl };
            };
            is_before = g.is_placed;
            is_there = here.0.world.resident_is giver.page ∙ ap (λ b. b || freed s (cursors_from at_start g.past Guest) giver.page) (earlier_true (is_placement_of giver.page) s.pager q (cursors_from at_start g.past Pager) may.by may.stands (puts_places giver.page giver.cell giver.value may.by may.puts_it) taken);
            has_it = g.has_it;
          },
        )

    -- a use finds its page not there
    absent : (page t : ℕ) (first : IsFirstTouch s page t) (order : List Name) → IsUnseenIn s shape page t first order → IsAbsentIn s t page order
    absent page t first order a = record {
      merging = a.merges;
      by = first.touch.by;
      world = world_after s a.past;
      at = record { earlier = a.past; stands = a.stands; is = first.touch.stands; world = refl };
      is_absent = a.is_absent;
    }

    never : (page : ℕ) (place touch : Option ℕ) → first_placement s page ≡ place → first_touch s page ≡ touch → unplaced place touch (releases_at s touch) ≡ true → (order : List Name) × IsNeverThere s page order
    never page (Some place) touch is at e = absurd (cc)
    never page None None is at e = absurd (cc)
    never page None (Some t) is at e =
        let first = first_is s page t at in
        let none = first_none (λ m. is_placement_of page) s.pager (length s.pager) is in
        let a = never_there s shape page t first some.0 some.1 (λ m r there. none m r there (slice_get_within s.pager m r there)) in
        (some.0, record { touch = t; is_touch = at; absent = absent page t first some.0 a })

    -- by its cause
    by_cause : (n page : ℕ) (c : PageCause) → is_used_by (first_touch s page) n ≡ true → IsWrong s n page c → (order : List Name) × Shows s n page c order
    by_cause n page (Sent w) used wrong =
        let g = wrong.given in
        let r = g.gives in
        let shown = given n wrong.placement (used_late n page r.vcpu r.page r.cell r.value r.reads used) r in
        (shown.0, record { place = wrong.placement; is_first = g.is_first; gives = shown.1 })
    by_cause n page (Placed w) used wrong = let r = wrong.given.gives in given n w.place (used_late n page r.vcpu r.page r.cell r.value r.reads used) r
    by_cause n page (Zeroed place) used wrong = let r = wrong.1.given.gives in given n place (used_late n page r.vcpu r.page r.cell r.value r.reads used) r
    by_cause n page (Again place) used wrong = let r = wrong.gives in given n place (used_late n page r.vcpu r.page r.cell r.value r.reads used) r
    by_cause n page (Over place look) used wrong = let r = wrong.1.gives in given n place (used_late n page r.vcpu r.page r.cell r.value r.reads used) r
    by_cause n page (Early touch look) used wrong =
        let early = wrong.1.1 in
        let first = first_is s page touch early.is_touch in
        let shown = absent_order s shape page touch first early.place (placed_first s page early.place early.is_first) early.follows some.0 some.1 in
        (shown.0, absent page touch first shown.0 shown.1)
    by_cause n page Unplaced used wrong = never page (first_placement s page) (first_touch s page) refl refl wrong.1.1
    by_cause n page (Lost l) used wrong = absurd wrong.1.1
    by_cause n page Unrecorded used wrong = absurd wrong.1.1

    pub explained : (n page : ℕ) (c : PageCause) → IsExplained s n page c → (order : List Name) × Shows s n page c order
    explained n page c is = by_cause n page c is.0 is.1
