-- What gives a read its value in an order may give it.
use Rattle.std.proofs.Common.{◌≡◌, ◌≢◌, ℕ, zero, suc, ◌<◌, ◌≤◌, ◌⊎◌, inl, inr, Bool, true, false, cond, ◌==◌, ◌&&◌, ◌||◌, List, ◌∷◌, length, Option, Some, None, refl, sym, ap, ◌∙◌, subst, arith, eqb-true, eq-eqb}
use Rattle.std.specs.Prelude.{Contains, slice_get, slice_index}
use Rattle.std.proofs.lemmas.Bool.{cases_lt, and_parts, and_from}
use Rattle.std.proofs.lemmas.Option.{slice_get-get_or}
use Rattle.migration_types.specs.declared.records.LogName.TheVariants.{Guest, Source, Link, Lane, Pager}
use Rattle.migration_types.specs.declared.records.GuestRec.{GuestRec}
use Rattle.migration_types.specs.declared.records.GuestRec.TheVariants.{Read, Write, Release, Miss, Halt, Resume, See}
use Rattle.migration_types.specs.declared.records.PagerRec.{PagerRec}
use Rattle.migration_types.specs.declared.records.PagerRec.TheVariants.{Got, Pull, Ready, Fault, Join, Want, Place, Zero, Skip, All}
use Rattle.migration_types.specs.Rows.{pager_contents}
use Rattle.migration_types.specs.Sessions.{Recorded}
use Rattle.migration_types.specs.Receipts.{Name, guest_receipt, pager_receipt}
use Rattle.audit_model.specs.Names.{if_there}
use Rattle.audit_model.specs.Mergings.{IsMerging, StandsAfter, Cursors, at_start}
use Rattle.audit_model.specs.Fitting.{Fits}
use Rattle.audit_model.specs.declared.home.Home.{Home}
use Rattle.audit_model.specs.declared.home.Home.TheVariants.{AtSource, Nowhere, AtTarget}
use Rattle.audit_model.specs.Flat.{changed, home, flat, freed, freed_after, marked_late}
use Rattle.audit_model.specs.Shape.{IsRightShape, passes, is_placement_of, earlier}
use Rattle.audit_model.specs.Walks.{next, cursors_from, Walks}
use Rattle.audit_model.specs.World.{World, start, step, guest_step, guest_step_at, pager_step, run_from, world_after}
use Rattle.audit_model.specs.Worlds.{IsAt}
use Rattle.audit_model.proofs.Clean.{false_if_not_true, clash}
use Rattle.audit_model.proofs.Cuts.{merging_walks, taken_before}
use Rattle.audit_model.proofs.Fits.{guest_fits}
use Rattle.audit_model.proofs.History.{earlier_true, earlier_witness, home_at_write, home_at_release}
use Rattle.audit_model.proofs.Orders.{is_at, left_if_placed}
use Rattle.audit_model.proofs.Touched.{left_if_freed, freed_true}
use Rattle.audit_model.proofs.Walked.{passed, walk_at}
use Rattle.session_story.specs.Values.{sets}
use Rattle.session_story.specs.Giving.{puts, MayGive}
use Rattle.session_story.specs.inner.Cells.{set_by}
use Rattle.session_story.specs.Scans.{last_before}
use Rattle.merge_runs.proofs.OneMore.{run_append}
use Rattle.session_story.proofs.Givers.{last_none, last_some, IsLastAt}
use Rattle.session_story.proofs.Setting.{flat_is_set, value_by}
use Rattle.session_story.proofs.Preceding.{which_first}
use Rattle.session_story.proofs.TargetCells.{IsQuiet, quiet_run}
use Rattle.session_story.proofs.GivingOrders.{split_at, stands_in, cursors_over, walks_over}

abbrev IsReleasedBy : Recorded → ℕ → ℕ → Type 0
IsReleasedBy s n page = (m : ℕ) × (v : ℕ) × (m < n) × (slice_get s.guest m ≡ Some (Release v page)) × (home s m ≡ AtTarget)

-- a freed page was released at the target
released_by : (s : Recorded) (n page : ℕ) → freed s n page ≡ true → IsReleasedBy s n page
released_by s zero page e = absurd (cc)
released_by s (suc n) page e = go (λ f. let r = released_by s n page f in (r.0, r.1, omega (arith, r.2), r.3, r.4)) (slice_get s.guest n) refl e
  where
    here : (v p : ℕ) → slice_get s.guest n ≡ Some (Release v p) → (h : Home) → home s n ≡ h → (t : Bool) → (p == page) ≡ t → (freed s n page ≡ true → IsReleasedBy s (suc n) page) → marked_late h t (freed s n page) ≡ true → IsReleasedBy s (suc n) page
    here v p is AtSource at t by rec e = rec e
    here v p is Nowhere at t by rec e = rec e
    here v p is AtTarget at true by rec e = (n, v, omega arith, is ∙ ap (λ k. Some (Release v k)) (eqb-true p page by), at)
    here v p is AtTarget at false by rec e = rec e

    go : (freed s n page ≡ true → IsReleasedBy s (suc n) page) → (o : Option GuestRec) → slice_get s.guest n ≡ o → changed (freed_after (home s n) page) o (freed s n page) ≡ true → IsReleasedBy s (suc n) page
    go rec None is e = rec e
    go rec (Some (Release v p)) is e = here v p is (home s n) refl (p == page) refl rec e
    go rec (Some Halt) is e = rec e
    go rec (Some (Resume i)) is e = rec e
    go rec (Some (Read v p c x)) is e = rec e
    go rec (Some (Write v p c x)) is e = rec e
    go rec (Some (Miss v p)) is e = rec e
    go rec (Some (See k)) is e = rec e

module _ (page cell : ℕ) where
  -- a change at the target, where the page is there if it is a write
  changes_cell : (r : GuestRec) (w : World) → sets page cell r ≡ true → ((v p c x : ℕ) → r ≡ Write v p c x → w.resident page ≡ true) → (guest_step_at AtTarget r w).target page cell ≡ set_by (Some r)
  changes_cell (Write v p c x) w e there =
      let parts = and_parts (p == page) (c == cell) e in
      let same = eqb-true p page parts.0 in
      let here : w.resident p ≡ true = ap w.resident same ∙ there v p c x refl in
      ap (λ b. (cond b (λ (q d : ℕ). cond ((p == q) && (c == d)) x (w.target q d)) w.target) page cell) here
      ∙ ap (λ b. cond b x (w.target page cell)) e
  changes_cell (Release v p) w e there = ap (λ b. cond b 0 (w.target page cell)) e
  changes_cell (Read v p c x) w e there = absurd (cc)
  changes_cell (Miss v p) w e there = absurd (cc)
  changes_cell Halt w e there = absurd (cc)
  changes_cell (Resume k) w e there = absurd (cc)
  changes_cell (See k) w e there = absurd (cc)

  -- a placement puts what the cell has after it
  puts_what_is_there : (value : ℕ) (r : PagerRec) (w : World) → is_placement_of page r ≡ true → ((p got : ℕ) (content : List ℕ) → r ≡ Place p got content → cell < length content) → (pager_step r w).target page cell ≡ value → puts page cell value r ≡ true
  puts_what_is_there value (Place p got content) w e long is =
      let at : slice_get content cell ≡ Some (slice_index content cell) = slice_get-get_or content cell 0 (long p got content refl) in
      let same : slice_index content cell ≡ value = sym (ap (λ b. cond b (slice_index content cell) (w.target page cell)) e) ∙ is in
      and_from (p == page) (passes (λ x. x == value) (slice_get content cell)) e (ap (λ o. passes (λ x. x == value) o) at ∙ eq-eqb (slice_index content cell) value same)
  puts_what_is_there value (Zero p) w e long is =
      let same : 0 ≡ value = sym (ap (λ b. cond b 0 (w.target page cell)) e) ∙ is in
      and_from (p == page) (value == 0) e (eq-eqb value 0 (sym same))
  puts_what_is_there value (Got k) w e long is = absurd (cc)
  puts_what_is_there value (Pull k) w e long is = absurd (cc)
  puts_what_is_there value Ready w e long is = absurd (cc)
  puts_what_is_there value (Fault k) w e long is = absurd (cc)
  puts_what_is_there value (Join k) w e long is = absurd (cc)
  puts_what_is_there value (Want p) w e long is = absurd (cc)
  puts_what_is_there value (Skip k) w e long is = absurd (cc)
  puts_what_is_there value All w e long is = absurd (cc)

-- no place below, or the last
module _ (s : Recorded) (shape : IsRightShape s) (fits : Fits s) (n v page cell value : ℕ) (reads : slice_get s.guest n ≡ Some (Read v page cell value)) (order : List Name) (merging : IsMerging s order) (past : List Name) (stands : StandsAfter order past (Guest, n)) where
  c : Cursors
  c = cursors_from at_start past

  walks_past : Walks s at_start past
  walks_past = (walk_at s at_start order past (Guest, n) (merging_walks s order merging) stands).0

  here : IsAt s (cursors_from at_start past) (world_after s past)
  here = (is_at s shape order merging past (Guest, n) stands).0

  n_is : n ≡ cursors_from at_start past Guest
  n_is = (is_at s shape order merging past (Guest, n) stands).1.is_next

  -- what stands between a record before the read and the read
  module _ (x : Name) (x_there : Contains past x) where
    inner : (before : List Name) × StandsAfter past before x
    inner = split_at past x x_there

    at_x : StandsAfter order inner.0 x
    at_x = stands_in order past inner.0 x (Guest, n) stands inner.1

    before_x : IsAt s (cursors_from at_start inner.0) (world_after s inner.0)
    before_x = (is_at s shape order merging inner.0 x at_x).0

    x_is : x.1 ≡ cursors_from at_start inner.0 x.0
    x_is = (is_at s shape order merging inner.0 x at_x).1.is_next

    abbrev from : Cursors
    from = next (cursors_from at_start inner.0) x.0

    walks : Walks s from inner.1.0
    walks = (walks_over s at_start inner.0 (x ∷ inner.1.0) (subst (λ xs. Walks s at_start xs) inner.1.1 walks_past)).1

    ends : cursors_from at_start past ≡ cursors_from from inner.1.0
    ends = ap (λ xs. cursors_from at_start xs) inner.1.1 ∙ cursors_over at_start inner.0 (x ∷ inner.1.0)

    -- the cell is as this record leaves it
    kept : ((name : Name) → from name.0 ≤ name.1 → name.1 < cursors_from from inner.1.0 name.0 → IsQuiet s page cell name) → (world_after s past).target page cell ≡ (step s x (world_after s inner.0)).target page cell
    kept quiet =
        ap (λ xs. (run_from s (start s) xs).target page cell) inner.1.1
        ∙ ap (λ w. w.target page cell) (run_append s (start s) inner.0 (x ∷ inner.1.0))
        ∙ quiet_run s page cell from inner.1.0 (step s x (world_after s inner.0)) walks quiet

  -- ---- the last change comes behind the placements

  module _ (d : ℕ) (found : last_before (λ m. sets page cell) s.guest n ≡ Some d) where
    last : IsLastAt (λ (m : ℕ). sets page cell) s.guest n d
    last = last_some (λ m. sets page cell) s.guest n d found

    d_there : Contains past (Guest, d)
    d_there = passed s past (Guest, d) walks_past (omega (arith, last.below, n_is))

    abbrev pd : List Name
    pd = (inner (Guest, d) d_there).0

    changed_last : home s d ≡ AtTarget → ((a p c x : ℕ) → last.by ≡ Write a p c x → (world_after s pd).resident page ≡ true) → ((m : ℕ) (r : PagerRec) → cursors_from at_start pd Pager ≤ m → m < cursors_from at_start past Pager → slice_get s.pager m ≡ Some r → is_placement_of page r ≡ false) → (world_after s past).target page cell ≡ flat s n page cell
    changed_last late there none =
        kept (Guest, d) d_there quiet
        ∙ ap (λ o. (changed guest_step o (world_after s pd)).target page cell) last.stands
        ∙ ap (λ h. (guest_step_at h last.by (world_after s pd)).target page cell) home_is
        ∙ changes_cell page cell last.by (world_after s pd) last.passes_test there
        ∙ ap set_by (sym last.stands)
        ∙ sym (flat_is_set s page cell n ∙ ap (λ o. value_by s page cell o) found)
      where
        home_is : (world_after s pd).home ≡ AtTarget
        home_is = (before_x (Guest, d) d_there).world.home_is ∙ ap (λ k. home s k) (sym (x_is (Guest, d) d_there)) ∙ late

        quiet : (name : Name) → from (Guest, d) d_there name.0 ≤ name.1 → name.1 < cursors_from (from (Guest, d) d_there) (inner (Guest, d) d_there).1.0 name.0 → IsQuiet s page cell name
        quiet (Guest, m) le lt = λ r is. last.is_last m r is (omega (arith, le, x_is (Guest, d) d_there)) (omega (arith, lt, ap (λ c. c Guest) (ends (Guest, d) d_there), n_is))
        quiet (Source, m) le lt = tt
        quiet (Link, m) le lt = tt
        quiet (Lane, m) le lt = tt
        quiet (Pager, m) le lt = λ r is. none m r (omega (arith, le)) (omega (arith, lt, ap (λ c. c Pager) (ends (Guest, d) d_there))) is

    -- where the guest has left the source, a change is at the target
    late_change : home s d ≢ AtSource → home s d ≡ AtTarget
    late_change left = go last.by last.stands last.passes_test (home s d) refl
      where
        go : (r : GuestRec) → slice_get s.guest d ≡ Some r → sets page cell r ≡ true → (h : Home) → home s d ≡ h → home s d ≡ AtTarget
        go r is e AtSource at = absurd (left at)
        go r is e AtTarget at = at
        go (Write a p k x) is e Nowhere at = absurd (home_at_write s shape d a p k x is at)
        go (Release a p) is e Nowhere at = absurd (home_at_release s shape d a p is at)
        go (Read a p k x) is e Nowhere at = absurd (cc)
        go (Miss a p) is e Nowhere at = absurd (cc)
        go Halt is e Nowhere at = absurd (cc)
        go (Resume k) is e Nowhere at = absurd (cc)
        go (See k) is e Nowhere at = absurd (cc)

  -- ---- the page is not placed before the read

  freed_only : ((m : ℕ) (r : PagerRec) → m < cursors_from at_start past Pager → slice_get s.pager m ≡ Some r → is_placement_of page r ≡ false) → (world_after s past).resident page ≡ true → (world_after s past).target page cell ≡ flat s n page cell
  freed_only none resident = go (last_before (λ m. sets page cell) s.guest n) refl
    where
      unplaced : earlier (is_placement_of page) s.pager (cursors_from at_start past Pager) ≡ false
      unplaced = false_if_not_true _ (λ e. let w = earlier_witness (is_placement_of page) s.pager (cursors_from at_start past Pager) e in clash _ w.4 (none w.0 w.1 w.2 w.3))

      is_freed : freed s n page ≡ true
      is_freed = ap (λ k. freed s k page) n_is ∙ sym (ap (λ b. b || freed s (cursors_from at_start past Guest) page) unplaced) ∙ sym (here.world.resident_is page) ∙ resident

      released : IsReleasedBy s n page
      released = released_by s n page is_freed

      sets_it : sets page cell (Release released.1 page) ≡ true
      sets_it = eq-eqb page page refl

      go : (o : Option ℕ) → last_before (λ m. sets page cell) s.guest n ≡ o → (world_after s past).target page cell ≡ flat s n page cell
      go None e = clash _ sets_it (last_none (λ m. sets page cell) s.guest n e released.0 (Release released.1 page) released.3 released.2)
      go (Some d) found = changed_last d found (late (cases_lt released.0 d)) there (λ m r le lt is. none m r lt is)
        where
          l : IsLastAt (λ (m : ℕ). sets page cell) s.guest n d
          l = last d found

          no_less : d < released.0 → ⊥
          no_less lt = clash _ sets_it (l.is_last released.0 (Release released.1 page) released.3 lt released.2)

          late : (released.0 < d) ⊎ (d ≤ released.0) → home s d ≡ AtTarget
          late (inl lt) = late_change d found (left_if_freed s d page (freed_true s released.0 d released.1 page released.3 released.4 sets_it lt))
          late (inr le) = same (cases_lt d released.0)
            where
              same : (d < released.0) ⊎ (released.0 ≤ d) → home s d ≡ AtTarget
              same (inl lt) = absurd (no_less lt)
              same (inr ge) = let e : released.0 ≡ d = omega arith in subst (λ k. home s k ≡ AtTarget) e released.4

          there : (a p k x : ℕ) → l.by ≡ Write a p k x → (world_after s (pd d found)).resident page ≡ true
          there a p k x is = by (cases_lt released.0 d) (cases_lt d released.0)
            where
              by : (released.0 < d) ⊎ (d ≤ released.0) → (d < released.0) ⊎ (released.0 ≤ d) → (world_after s (pd d found)).resident page ≡ true
              by (inl lt) other =
                  let f = freed_true s released.0 d released.1 page released.3 released.4 sets_it lt in
                  let at = x_is (Guest, d) (d_there d found) in
                  let placed = earlier (is_placement_of page) s.pager (cursors_from at_start (pd d found) Pager) in
                  (before_x (Guest, d) (d_there d found)).world.resident_is page
                  ∙ ap (λ b. placed || b) (ap (λ j. freed s j page) (sym at) ∙ f)
                  ∙ or_true placed
                where
                  or_true : (b : Bool) → (b || true) ≡ true
                  or_true true = refl
                  or_true false = refl
              by (inr le) (inl lt) = absurd (no_less lt)
              by (inr le) (inr ge) =
                  let e : released.0 ≡ d = omega arith in
                  let f : Some (Release released.1 page) ≡ Some (Write a p k x) = sym released.3 ∙ ap (λ j. slice_get s.guest j) e ∙ l.stands ∙ ap (λ r. Some r) is in
                  absurd (cc)

  -- ---- the page's last placement before the read

  module _ (q : ℕ) (placed : last_before (λ m. is_placement_of page) s.pager (cursors_from at_start past Pager) ≡ Some q) where
    lastly : IsLastAt (λ (m : ℕ). is_placement_of page) s.pager (cursors_from at_start past Pager) q
    lastly = last_some (λ m. is_placement_of page) s.pager (cursors_from at_start past Pager) q placed

    q_there : Contains past (Pager, q)
    q_there = passed s past (Pager, q) walks_past lastly.below

    abbrev pq : List Name
    pq = (inner (Pager, q) q_there).0

    long : (p got : ℕ) (content : List ℕ) → lastly.by ≡ Place p got content → cell < length content
    long p got content is =
        let e : slice_get s.pager q ≡ Some (Place p got content) = lastly.stands ∙ ap (λ r. Some r) is in
        let size = (fits.contents (Pager, q) content (ap (λ o. if_there pager_contents o) e)).count in
        let below : cell < s.geometry.cells = (guest_fits s fits n (Read v page cell value) reads).1.1.0 in
        omega (arith, size, below)

    -- where each change comes before the placement, it may give the read its value
    gives : ((m : ℕ) (r : GuestRec) → slice_get s.guest m ≡ Some r → sets page cell r ≡ true → m < n → m < cursors_from at_start pq Guest) → (world_after s past).target page cell ≡ value → MayGive s n page cell value q
    gives changes is = record {
      by = lastly.by;
      stands = lastly.stands;
      puts_it = puts_what_is_there page cell value lastly.by (world_after s pq) lastly.passes_test long (sym stepped ∙ is);
      follows = follows;
      precedes = precedes;
      is_last = is_last;
    }
      where
        quiet : (name : Name) → from (Pager, q) q_there name.0 ≤ name.1 → name.1 < cursors_from (from (Pager, q) q_there) (inner (Pager, q) q_there).1.0 name.0 → IsQuiet s page cell name
        quiet (Guest, m) le lt = λ r at. false_if_not_true _ (λ e. let low = changes m r at e (omega (arith, lt, ap (λ c. c Guest) (ends (Pager, q) q_there), n_is)) in absurd (omega (arith, low, le)))
        quiet (Source, m) le lt = tt
        quiet (Link, m) le lt = tt
        quiet (Lane, m) le lt = tt
        quiet (Pager, m) le lt = λ r at. lastly.is_last m r at (omega (arith, le, x_is (Pager, q) q_there)) (omega (arith, lt, ap (λ c. c Pager) (ends (Pager, q) q_there)))

        stepped : (world_after s past).target page cell ≡ (pager_step lastly.by (world_after s pq)).target page cell
        stepped = kept (Pager, q) q_there quiet ∙ ap (λ o. (changed pager_step o (world_after s pq)).target page cell) lastly.stands

        follows : (d : ℕ) → last_before (λ m. sets page cell) s.guest n ≡ Some d → (m k : ℕ) → m < d → slice_get s.guest m ≡ Some (See k) → k < q
        follows d found m k lt at =
            let l = last_some (λ (m : ℕ). sets page cell) s.guest n d found in
            let low = changes d l.by l.stands l.passes_test l.below in
            let taken = (before_x (Pager, q) q_there).cut.sent_taken (Guest, m) (Pager, k) (omega (arith, lt, low)) (ap (λ o. if_there guest_receipt o) at) in
            omega (arith, taken, x_is (Pager, q) q_there)

        precedes : (m k : ℕ) → m < q → slice_get s.pager m ≡ Some (Fault k) → k ≤ n
        precedes m k lt at =
            let taken = here.cut.sent_taken (Pager, m) (Guest, k) (omega (arith, lt, lastly.below)) (ap (λ o. if_there pager_receipt o) at) in
            omega (arith, taken, n_is)

        is_last : (m : ℕ) (r : PagerRec) → q < m → slice_get s.pager m ≡ Some r → is_placement_of page r ≡ true → (j k : ℕ) → j < n → slice_get s.guest j ≡ Some (See k) → k < m
        is_last m r more at places j k lt look = go (cases_lt k m)
          where
            taken : k < cursors_from at_start past Pager
            taken = here.cut.sent_taken (Guest, j) (Pager, k) (omega (arith, lt, n_is)) (ap (λ o. if_there guest_receipt o) look)

            go : (k < m) ⊎ (m ≤ k) → k < m
            go (inl less) = less
            go (inr le) = clash _ places (lastly.is_last m r at more (omega (arith, taken, le)))

    -- where the last change comes behind it, the cell is as on one machine
    overwritten : (d : ℕ) (found : last_before (λ m. sets page cell) s.guest n ≡ Some d) → q < cursors_from at_start (pd d found) Pager → (world_after s past).target page cell ≡ flat s n page cell
    overwritten d found low = changed_last d found late (λ a p k x is. there) (λ m r le lt is. lastly.is_last m r is (omega (arith, le, low)) lt)
      where
        at_d : IsAt s (cursors_from at_start (pd d found)) (world_after s (pd d found))
        at_d = before_x (Guest, d) (d_there d found)

        is_placed : earlier (is_placement_of page) s.pager (cursors_from at_start (pd d found) Pager) ≡ true
        is_placed = earlier_true (is_placement_of page) s.pager q (cursors_from at_start (pd d found) Pager) lastly.by lastly.stands lastly.passes_test low

        there : (world_after s (pd d found)).resident page ≡ true
        there = at_d.world.resident_is page ∙ ap (λ b. b || freed s (cursors_from at_start (pd d found) Guest) page) is_placed

        late : home s d ≡ AtTarget
        late = late_change d found (subst (λ k. home s k ≢ AtSource) (sym (x_is (Guest, d) (d_there d found))) (left_if_placed s shape (cursors_from at_start (pd d found)) at_d.cut page is_placed))

  -- the read is right, or a placement may have given it its value
  pub right_or_given : (world_after s past).resident page ≡ true → (world_after s past).target page cell ≡ value → (value ≡ flat s n page cell) ⊎ ((q : ℕ) × MayGive s n page cell value q)
  right_or_given resident is = go (last_before (λ m. is_placement_of page) s.pager (cursors_from at_start past Pager)) refl
    where
      go : (o : Option ℕ) → last_before (λ m. is_placement_of page) s.pager (cursors_from at_start past Pager) ≡ o → (value ≡ flat s n page cell) ⊎ ((q : ℕ) × MayGive s n page cell value q)
      go None none = inl (sym is ∙ freed_only (λ m r lt at. last_none (λ m. is_placement_of page) s.pager (cursors_from at_start past Pager) none m r at lt) resident)
      go (Some q) placed = by (last_before (λ m. sets page cell) s.guest n) refl
        where
          by : (o : Option ℕ) → last_before (λ m. sets page cell) s.guest n ≡ o → (value ≡ flat s n page cell) ⊎ ((q : ℕ) × MayGive s n page cell value q)
          by None unset = inr (q, gives q placed (λ m r at e lt. clash _ e (last_none (λ m. sets page cell) s.guest n unset m r at lt)) is)
          by (Some d) found = which (cases_lt d (cursors_from at_start (pq q placed) Guest))
            where
              l : IsLastAt (λ (m : ℕ). sets page cell) s.guest n d
              l = last d found

              after_q : d < cursors_from at_start (pq q placed) Guest → (m : ℕ) (r : GuestRec) → slice_get s.guest m ≡ Some r → sets page cell r ≡ true → m < n → m < cursors_from at_start (pq q placed) Guest
              after_q low m r at e lt = less (cases_lt d m)
                where
                  less : (d < m) ⊎ (m ≤ d) → m < cursors_from at_start (pq q placed) Guest
                  less (inl more) = clash _ e (l.is_last m r at more lt)
                  less (inr le) = omega (arith, le, low)

              two : (before : List Name) × StandsAfter past before (Guest, d)
              two = inner (Guest, d) (d_there d found)

              one : (before : List Name) × StandsAfter past before (Pager, q)
              one = inner (Pager, q) (q_there q placed)

              ordered : cursors_from at_start (pq q placed) Guest ≤ d → (◌≡◌ {A = Name} (Guest, d) (Pager, q)) ⊎ (Contains two.0 (Pager, q) ⊎ Contains one.0 (Guest, d)) → q < cursors_from at_start (pd d found) Pager
              ordered high (inl same) = absurd (let e : Guest ≡ Pager = ap (λ (z : Name). z.0) same in cc)
              ordered high (inr (inl h)) = taken_before s order merging two.0 (Guest, d) (at_x (Guest, d) (d_there d found)) Pager q h
              ordered high (inr (inr h)) = absurd (omega (arith, high, taken_before s order merging one.0 (Pager, q) (at_x (Pager, q) (q_there q placed)) Guest d h))

              which : (d < cursors_from at_start (pq q placed) Guest) ⊎ (cursors_from at_start (pq q placed) Guest ≤ d) → (value ≡ flat s n page cell) ⊎ ((q : ℕ) × MayGive s n page cell value q)
              which (inl low) = inr (q, gives q placed (after_q low) is)
              which (inr high) = inl (sym is ∙ overwritten q placed d found (ordered high (which_first (Guest, d) (Pager, q) two.0 two.1.0 one.0 one.1.0 (sym two.1.1 ∙ one.1.1))))
