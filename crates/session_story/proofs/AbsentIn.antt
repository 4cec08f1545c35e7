-- Orders in which a use finds its page not there.
use Rattle.std.proofs.Common.{◌≡◌, ℕ, ◌<◌, ◌≤◌, ◌⊎◌, inl, inr, true, false, ◌||◌, List, Some, sym, ap, ◌∙◌, arith}
use Rattle.std.specs.Prelude.{slice_get}
use Rattle.std.proofs.lemmas.Bool.{cases_lt}
use Rattle.std.proofs.lemmas.Option.{slice_get_within}
use Rattle.migration_types.specs.declared.records.LogName.TheVariants.{Guest, Pager}
use Rattle.migration_types.specs.declared.records.GuestRec.TheVariants.{See}
use Rattle.migration_types.specs.declared.records.PagerRec.{PagerRec}
use Rattle.migration_types.specs.Sessions.{Recorded}
use Rattle.migration_types.specs.Receipts.{Name}
use Rattle.audit_model.specs.Names.{log_length}
use Rattle.audit_model.specs.Mergings.{IsMerging, StandsAfter, at_start}
use Rattle.audit_model.specs.Certificates.{is_touch_of}
use Rattle.audit_model.specs.Delayed.{IsFirstPlacement}
use Rattle.audit_model.specs.Flat.{freed}
use Rattle.audit_model.specs.Shape.{IsRightShape, is_placement_of, earlier}
use Rattle.audit_model.specs.Walks.{cursors_from, Walks, MayFollow as CanFollow}
use Rattle.audit_model.specs.World.{world_after}
use Rattle.audit_model.specs.Worlds.{IsAt}
use Rattle.audit_model.proofs.Clean.{false_if_not_true, clash}
use Rattle.audit_model.proofs.Cuts.{merging_walks}
use Rattle.audit_model.proofs.FirstTouch.{IsFirstTouch}
use Rattle.audit_model.proofs.History.{earlier_true, earlier_witness}
use Rattle.audit_model.proofs.Late.{stands_somewhere}
use Rattle.audit_model.proofs.Orders.{is_at}
use Rattle.audit_model.proofs.Touched.{freed_by}
use Rattle.audit_model.proofs.Walked.{passed, walk_at}
use Rattle.session_story.specs.Giving.{MayFollow}
use Rattle.session_story.proofs.Preceding.{not_before_itself, IsAhead, ahead}
use Rattle.session_story.proofs.GivingOrders.{split_at, stands_in, still_contains, received_before}

module _ (s : Recorded) (shape : IsRightShape s) (page t : ℕ) (first : IsFirstTouch s page t) where
  t_there : t < log_length s Guest
  t_there = slice_get_within s.guest t first.touch.by first.touch.stands

  pub record IsUnseenIn (order : List Name) : Type 0 where
    pub merges : IsMerging s order
    pub past : List Name
    pub stands : StandsAfter order past (Guest, t)
    pub is_absent : (world_after s past).resident page ≡ false

  -- where no placement of the page stands before its first use, the use finds the page not there
  absent_at : (order : List Name) (merging : IsMerging s order) (past : List Name) → StandsAfter order past (Guest, t) → ((m : ℕ) (r : PagerRec) → m < cursors_from at_start past Pager → slice_get s.pager m ≡ Some r → is_placement_of page r ≡ true → ⊥) → (world_after s past).resident page ≡ false
  absent_at order merging past stands none =
      at.0.world.resident_is page
      ∙ ap (λ b. b || freed s (cursors_from at_start past Guest) page) unplaced
      ∙ ap (λ k. freed s k page) (sym at.1.is_next)
      ∙ false_if_not_true _ (λ e. let f = freed_by s t page e in let le = first.is_first f.0 f.2 in absurd (omega (arith, f.1, le)))
    where
      at : IsAt s (cursors_from at_start past) (world_after s past) × CanFollow s (cursors_from at_start past) (Guest, t)
      at = is_at s shape order merging past (Guest, t) stands

      unplaced : earlier (is_placement_of page) s.pager (cursors_from at_start past Pager) ≡ false
      unplaced = false_if_not_true _ (λ e. let w = earlier_witness (is_placement_of page) s.pager (cursors_from at_start past Pager) e in none w.0 w.1 w.2 w.3 w.4)

  -- so it does in each order if the page is never placed
  pub never_there : (order : List Name) → IsMerging s order → ((m : ℕ) (r : PagerRec) → slice_get s.pager m ≡ Some r → is_placement_of page r ≡ false) → IsUnseenIn order
  never_there order merging none =
      let at = stands_somewhere s order merging (Guest, t) t_there in
      record {
        merges = merging;
        past = at.0;
        stands = at.1;
        is_absent = absent_at order merging at.0 at.1 (λ m r lt is places. clash _ places (none m r is));
      }

  -- and in one if the first placement may follow the use
  pub absent_order : (place : ℕ) → IsFirstPlacement s page place → MayFollow s place t → (order : List Name) → IsMerging s order → (new : List Name) × IsUnseenIn new
  absent_order place placed follows order merging = (
    done.0,
    record {
      merges = done.1.merges;
      past = at.0;
      stands = at.1;
      is_absent = absent_at done.0 done.1.merges at.0 at.1 none;
    },
  )
    where
      no_look : (k : ℕ) → slice_get s.guest t ≡ Some (See k) → ⊥
      no_look k is =
          let e : Some first.touch.by ≡ Some (See k) = sym first.touch.stands ∙ is in
          let f : first.touch.by ≡ See k = cc in
          let g = ap (λ r. is_touch_of page r) (sym f) ∙ first.touch.is_touch in
          cc

      p_there : place < log_length s Pager
      p_there = slice_get_within s.pager place placed.by placed.stands

      done : (new : List Name) × IsAhead s shape order merging t place t_there p_there new
      done = ahead s shape order merging t place t_there p_there (received_before s shape page t place placed.by placed.stands placed.places follows no_look)

      at : (past : List Name) × StandsAfter done.0 past (Guest, t)
      at = stands_somewhere s done.0 done.1.merges (Guest, t) t_there

      none : (m : ℕ) (r : PagerRec) → m < cursors_from at_start at.0 Pager → slice_get s.pager m ≡ Some r → is_placement_of page r ≡ true → ⊥
      none m r lt is places = go (cases_lt m place)
        where
          walks : Walks s at_start at.0
          walks = (walk_at s at_start done.0 at.0 (Guest, t) (merging_walks s done.0 done.1.merges) at.1).0

          go : (m < place) ⊎ (place ≤ m) → ⊥
          go (inl less) = clash _ (earlier_true (is_placement_of page) s.pager m place r is places less) placed.is_first
          go (inr le) =
              let inner = split_at at.0 (Pager, place) (passed s at.0 (Pager, place) walks (omega (arith, lt, le))) in
              let h = done.1.is_before inner.0 (stands_in done.0 at.0 inner.0 (Pager, place) (Guest, t) at.1 inner.1) in
              not_before_itself s done.0 done.1.merges at.0 (Guest, t) at.1 (still_contains at.0 inner.0 (Pager, place) (Guest, t) inner.1 h)
