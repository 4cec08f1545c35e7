-- No merging explains a wrong read that has no such cause.
use Rattle.std.proofs.Common.{◌≡◌, ◌≢◌, ℕ, zero, suc, ◌+◌, ◌<◌, ◌≤◌, ◌⊎◌, inl, inr, Bool, true, false, cond, ◌==◌, ◌&&◌, List, length, Option, Some, None, refl, sym, ap, ◌∙◌, subst, arith, eqb-true, eq-eqb}
use Rattle.std.specs.Prelude.{slice_get}
use Rattle.std.proofs.lemmas.Bool.{cases_lt, and_parts, le-leb, or_parts}
use Rattle.std.proofs.lemmas.Option.{slice_get_within}
use Rattle.migration_types.specs.declared.records.LogName.TheVariants.{Guest, Pager}
use Rattle.migration_types.specs.declared.records.GuestRec.{GuestRec}
use Rattle.migration_types.specs.declared.records.GuestRec.TheVariants.{Read, Write, Release, Miss, Halt, Resume, See}
use Rattle.migration_types.specs.Receipts.{Name, guest_receipt}
use Rattle.migration_types.specs.Sessions.{Recorded}
use Rattle.audit_model.specs.Certificates.{IsLateTouch, is_touch_of}
use Rattle.audit_model.specs.Fitting.{Fits}
use Rattle.audit_model.specs.declared.home.Home.{Home}
use Rattle.audit_model.specs.declared.home.Home.TheVariants.{AtSource, Nowhere, AtTarget}
use Rattle.audit_model.specs.Flat.{at_halt, cell_after, changed, flat, freed, home, home_after}
use Rattle.audit_model.specs.Mergings.{IsMerging, StandsAfter, at_start}
use Rattle.audit_model.specs.Names.{if_there}
use Rattle.audit_model.specs.Shape.{IsRightShape, earlier, is_placement_of, passes}
use Rattle.audit_model.specs.Walks.{cursors_from}
use Rattle.audit_model.specs.World.{World, world_after}
use Rattle.audit_model.specs.Worlds.{IsAt}
use Rattle.audit_model.proofs.Clean.{clash, false_if_not_true}
use Rattle.audit_model.proofs.Consistent.{there}
use Rattle.audit_model.proofs.FirstTouch.{IsFirstTouch, first_touch_at}
use Rattle.audit_model.proofs.History.{AtSource≢AtTarget, earlier_true, halt_is_at_halt, home_at_release, home_at_resume, home_at_write}
use Rattle.audit_model.proofs.Orders.{is_at}
use Rattle.audit_model.proofs.Touched.{freed_true}
use Rattle.page_facts.specs.Judged.{releases_at}
use Rattle.page_facts.proofs.Before.{IsFirstAt, first_none, first_some}
use Rattle.page_facts.proofs.RightEntry.{late_first, release_of}
use Rattle.session_story.specs.CauseLaws.{Explains, IsWrongRead}
use Rattle.session_story.specs.Explained.{IsGivenRight, IsPlacedOnce, IsSentRight, IsUnexplained, IsWrong, first_placement, first_touch, is_used_by, is_zero, unplaced}
use Rattle.session_story.specs.Giving.{IsFirstGiver, IsGiver, MayFollow, MayGive}
use Rattle.session_story.specs.Looks.{IsFurthestLook}
use Rattle.session_story.specs.Scans.{last_before}
use Rattle.session_story.specs.Values.{sets}
use Rattle.session_story.specs.inner.Questions.{looked}
use Rattle.session_story.specs.declared.looks.Look.{Look}
use Rattle.session_story.specs.declared.values.CellValue.{CellValue}
use Rattle.session_story.specs.declared.fault_stories.PageCause.{PageCause}
use Rattle.session_story.specs.declared.fault_stories.PageCause.TheVariants.{Sent, Placed, Zeroed, Again, Over, Early, Unplaced}
use Rattle.session_story.proofs.Givers.{IsLastAt, last_none, last_some}
use Rattle.session_story.proofs.Looking.{IsBest, best_next}
use Rattle.session_story.proofs.RightOrGiven.{right_or_given}
use Rattle.session_story.proofs.TargetCells.{puts_places}

-- the look that reaches furthest
furthest : (s : Recorded) (n : ℕ) → n ≤ length s.guest → (look : Option Look) × IsFurthestLook s n look
furthest s zero le = (None, λ m k lt at. absurd (omega arith))
furthest s (suc n) le =
    let before = furthest s n (omega arith) in
    let r = there s.guest n (suc n) (omega arith) le in
    let next : n + 1 ≡ suc n = omega arith in
    (looked n r.0 before.0, subst (λ k. IsBest s k (looked n r.0 before.0)) next (best_next s n r.0 r.1 before.0 before.1))

-- a change of the cell at the target
abbrev IsSetLate : Recorded → ℕ → ℕ → ℕ → Type 0
IsSetLate s page cell n = (d : ℕ) × (r : GuestRec) × (d < n) × (slice_get s.guest d ≡ Some r) × (sets page cell r ≡ true) × (home s d ≡ AtTarget)

module _ (s : Recorded) (shape : IsRightShape s) (page cell : ℕ) where
  up : (n : ℕ) → IsSetLate s page cell n → IsSetLate s page cell (suc n)
  up n d = (d.0, d.1, omega (arith, d.2), d.3, d.4, d.5)

  at_target : (h : Home) → h ≢ AtSource → h ≢ Nowhere → h ≡ AtTarget
  at_target AtSource left somewhere = absurd (left refl)
  at_target Nowhere left somewhere = absurd (somewhere refl)
  at_target AtTarget left somewhere = refl

  -- a cell keeps what it had at the halt, or a record at the target changes it
  late_set : (n : ℕ) → home s n ≢ AtSource → (flat s n page cell ≡ flat s (at_halt s) page cell) ⊎ IsSetLate s page cell n
  late_set zero left = absurd (left refl)
  late_set (suc n) left = go (λ left. raise (late_set n left)) (slice_get s.guest n) refl left
    where
      raise : (flat s n page cell ≡ flat s (at_halt s) page cell) ⊎ IsSetLate s page cell n → (flat s n page cell ≡ flat s (at_halt s) page cell) ⊎ IsSetLate s page cell (suc n)
      raise (inl same) = inl same
      raise (inr d) = inr (up n d)

      set : (r : GuestRec) (x : ℕ) → slice_get s.guest n ≡ Some r → home s n ≢ AtSource → home s n ≢ Nowhere → (b : Bool) → sets page cell r ≡ b → (flat s n page cell ≡ flat s (at_halt s) page cell) ⊎ IsSetLate s page cell (suc n) → (cond b x (flat s n page cell) ≡ flat s (at_halt s) page cell) ⊎ IsSetLate s page cell (suc n)
      set r x is left somewhere true e before = inr (n, r, omega arith, is, e, at_target (home s n) left somewhere)
      set r x is left somewhere false e before = before

      go : (home s n ≢ AtSource → (flat s n page cell ≡ flat s (at_halt s) page cell) ⊎ IsSetLate s page cell (suc n)) → (o : Option GuestRec) → slice_get s.guest n ≡ o → changed home_after o (home s n) ≢ AtSource → (changed (cell_after page cell) o (flat s n page cell) ≡ flat s (at_halt s) page cell) ⊎ IsSetLate s page cell (suc n)
      go rec None is left = rec left
      go rec (Some Halt) is left = inl (ap (λ k. flat s k page cell) (sym (halt_is_at_halt s shape n is)))
      go rec (Some (Resume i)) is left = rec (λ at. let e : AtSource ≡ Nowhere = sym at ∙ home_at_resume s shape n i is in cc)
      go rec (Some (Read v p c x)) is left = rec left
      go rec (Some (Miss v p)) is left = rec left
      go rec (Some (See k)) is left = rec left
      go rec (Some (Write v p c x)) is left = set (Write v p c x) x is left (home_at_write s shape n v p c x is) ((p == page) && (c == cell)) refl (rec left)
      go rec (Some (Release v p)) is left = set (Release v p) 0 is left (home_at_release s shape n v p is) (p == page) refl (rec left)

  set_touches : (r : GuestRec) → sets page cell r ≡ true → is_touch_of page r ≡ true
  set_touches (Write v p c x) e = (and_parts (p == page) (c == cell) e).0
  set_touches (Release v p) e = e
  set_touches (Read v p c x) e = absurd (cc)
  set_touches (Miss v p) e = absurd (cc)
  set_touches Halt e = absurd (cc)
  set_touches (Resume k) e = absurd (cc)
  set_touches (See k) e = absurd (cc)

module _ (s : Recorded) (fits : Fits s) (shape : IsRightShape s) (n page : ℕ) (read : IsWrongRead s n page) (un : IsUnexplained s n page) where
  -- ---- the page's first use

  touch : IsLateTouch s page n
  touch = record { by = Read read.vcpu page read.cell read.value; stands = read.reads; is_touch = eq-eqb page page refl; is_late = read.is_late }

  first : (t : ℕ) × (t ≤ n) × IsFirstTouch s page t
  first = first_touch_at s page n touch

  abbrev t : ℕ
  t = first.0

  t_is : first_touch s page ≡ Some t
  t_is = late_first s page t first.2.touch first.2.is_first

  used : is_used_by (first_touch s page) n ≡ true
  used = ap (λ o. is_used_by o n) t_is ∙ le-leb t n first.1

  t_within : t ≤ length s.guest
  t_within = omega (arith, slice_get_within s.guest t first.2.touch.by first.2.touch.stands)

  -- ---- the causes that it does not have

  no : (c : PageCause) → IsWrong s n page c → ⊥
  no c wrong = un c (used, wrong)

  once : IsPlacedOnce s n page
  once q again = no (Again q) again

  right : IsGivenRight s n page
  right place held g = go (passes is_zero (slice_get s.pager place)) refl
    where
      sent : IsSentRight s page held
      sent other wrong = no (Sent (record { place = other; held = held })) (record { placement = place; given = g; sends = wrong })

      go : (b : Bool) → passes is_zero (slice_get s.pager place) ≡ b → ⊥
      go true e = no (Zeroed place) (held, record { given = g; sent = sent; is_of_zeros = e })
      go false e = no (Placed (record { place = place; held = held })) (record { given = g; sent = sent; is_of_zeros = e })

  not_early : (place : ℕ) → first_placement s page ≡ Some place → releases_at s (Some t) ≡ false → MayFollow s place t → ⊥
  not_early place is needs follows =
      let look = furthest s t t_within in
      no (Early t look.0) (
        right,
        (
          once,
          record {
            place = place;
            is_first = is;
            is_touch = t_is;
            needs = ap (λ (o : Option ℕ). releases_at s o) t_is ∙ needs;
            follows = follows;
            seen = look.1;
          },
        ),
      )

  not_unplaced : first_placement s page ≡ None → releases_at s (Some t) ≡ false → ⊥
  not_unplaced none needs =
      no Unplaced (
        right,
        (
          once,
          ap (λ (o : Option ℕ). unplaced o (first_touch s page) (releases_at s (first_touch s page))) none
              ∙ ap (λ (o : Option ℕ). unplaced None o (releases_at s o)) t_is
              ∙ ap (λ b. unplaced None (Some t) b) needs,
        ),
      )

  not_over : (q : ℕ) → first_placement s page ≡ Some q → IsGiver s n q → releases_at s (Some t) ≡ true → ⊥
  not_over q is g releases =
      let look = furthest s t t_within in
      no (Over q look.0) (
        right,
        record {
          is_first = is;
          gives = g;
          releases = ap (λ (o : Option ℕ). releases_at s o) t_is ∙ releases;
          seen = λ other at. let both : Some t ≡ Some other = sym t_is ∙ at in let same : t ≡ other = cc in subst (λ k. IsFurthestLook s k look.0) same look.1;
        },
      )

  -- ---- no placement gives it its value

  module _ (q : ℕ) (f : IsFirstGiver s n page read.cell read.value q) where
    abbrev g : IsGiver s n q
    g = record { vcpu = read.vcpu; page = page; cell = read.cell; value = read.value; reads = read.reads; first = f }

    abbrev held : CellValue
    held = record { cell = read.cell; value = flat s (at_halt s) page read.cell; by = last_before (λ m. sets page read.cell) s.guest (at_halt s) }

    -- the first use comes no later than the last change
    follows : IsSetLate s page read.cell n → MayFollow s q t
    follows d m k lt at = go (last_before (λ m. sets page read.cell) s.guest n) refl
      where
        low : t ≤ d.0
        low = first.2.is_first d.0 (record { by = d.1; stands = d.3; is_touch = set_touches s shape page read.cell d.1 d.4; is_late = d.5 })

        go : (o : Option ℕ) → last_before (λ m. sets page read.cell) s.guest n ≡ o → k < q
        go None none = clash _ d.4 (last_none (λ m. sets page read.cell) s.guest n none d.0 d.1 d.3 d.2)
        go (Some l) found = f.gives.follows l found m k (omega (arith, lt, low, most (cases_lt l d.0))) at
          where
            last : IsLastAt (λ (m : ℕ). sets page read.cell) s.guest n l
            last = last_some (λ m. sets page read.cell) s.guest n l found

            most : (l < d.0) ⊎ (d.0 ≤ l) → d.0 ≤ l
            most (inl less) = clash _ d.4 (last.is_last d.0 d.1 d.3 less d.2)
            most (inr le) = le

    by_first : first_placement s page ≡ Some q → ⊥
    by_first is = go (read.value == flat s (at_halt s) page read.cell) refl
      where
        late : (b : Bool) → releases_at s (Some t) ≡ b → IsSetLate s page read.cell n → ⊥
        late true e d = not_over q is g e
        late false e d = not_early q is e (follows d)

        as_at_halt : read.value ≡ flat s (at_halt s) page read.cell → (flat s n page read.cell ≡ flat s (at_halt s) page read.cell) ⊎ IsSetLate s page read.cell n → ⊥
        as_at_halt same (inl kept) = read.is_wrong (same ∙ sym kept)
        as_at_halt same (inr d) = late (releases_at s (Some t)) refl d

        go : (b : Bool) → (read.value == flat s (at_halt s) page read.cell) ≡ b → ⊥
        go true e = as_at_halt (eqb-true read.value (flat s (at_halt s) page read.cell) e) (late_set s shape page read.cell n (λ at. AtSource≢AtTarget (sym at ∙ read.is_late)))
        go false e = right q held (record {
          is_first = is;
          gives = g;
          other = record {
            vcpu = read.vcpu;
            page = page;
            value = read.value;
            reads = read.reads;
            held = record { value = refl; by = refl };
            differs = λ same. clash _ (eq-eqb read.value (flat s (at_halt s) page read.cell) same) e;
          };
        })

    no_first_giver : ⊥
    no_first_giver = go (first_placement s page) refl
      where
        places : is_placement_of page f.gives.by ≡ true
        places = puts_places page read.cell read.value f.gives.by f.gives.puts_it

        other : (k : ℕ) → first_placement s page ≡ Some k → (k ≡ q → ⊥) → ⊥
        other k is differs = once q (record { gives = g; is_later = λ e. let both : Some k ≡ Some q = sym is ∙ e in differs (cc) })

        by : (k : ℕ) → first_placement s page ≡ Some k → (k < q) ⊎ (q ≤ k) → (q < k) ⊎ (k ≤ q) → ⊥
        by k is (inl lt) _ = other k is (λ same. omega (arith, same, lt))
        by k is (inr ge) (inl lt) = other k is (λ same. omega (arith, same, lt))
        by k is (inr ge) (inr le) = let same : k ≡ q = omega arith in by_first (is ∙ ap (λ j. Some j) same)

        go : (o : Option ℕ) → first_placement s page ≡ o → ⊥
        go None none = clash _ places (first_none (λ m. is_placement_of page) s.pager (length s.pager) none q f.gives.by f.gives.stands (slice_get_within s.pager q f.gives.by f.gives.stands))
        go (Some k) is = by k is (cases_lt k q) (cases_lt q k)

  no_giver : (k q : ℕ) → q < k → MayGive s n page read.cell read.value q → ⊥
  no_giver zero q lt may = absurd (omega arith)
  no_giver (suc k) q lt may = no_first_giver q (record { gives = may; is_first = λ m less other. no_giver k m (omega (arith, less, lt)) other })

  -- ---- the page is there

  module _ (order : List Name) (merging : IsMerging s order) (past : List Name) (stands : StandsAfter order past (Guest, n)) where
    here : IsAt s (cursors_from at_start past) (world_after s past)
    here = (is_at s shape order merging past (Guest, n) stands).0

    n_is : n ≡ cursors_from at_start past Guest
    n_is = (is_at s shape order merging past (Guest, n) stands).1.is_next

    not_absent : (world_after s past).resident page ≡ false → ⊥
    not_absent absent = go (first_placement s page) refl
      where
        parts : (earlier (is_placement_of page) s.pager (cursors_from at_start past Pager) ≡ false) × (freed s (cursors_from at_start past Guest) page ≡ false)
        parts = or_parts (earlier (is_placement_of page) s.pager (cursors_from at_start past Pager)) (freed s (cursors_from at_start past Guest) page) (sym (here.world.resident_is page) ∙ absent)

        needs : releases_at s (Some t) ≡ false
        needs = false_if_not_true _ (λ e. by (release_of s page t first.2.touch e) (cases_lt t n))
          where
            by : (v : ℕ) × (slice_get s.guest t ≡ Some (Release v page)) → (t < n) ⊎ (n ≤ t) → ⊥
            by r (inl lt) = clash _ (freed_true s t (cursors_from at_start past Guest) r.0 page r.1 first.2.touch.is_late (eq-eqb page page refl) (omega (arith, lt, n_is))) parts.1
            by r (inr ge) =
                let same : t ≡ n = omega (arith, ge, first.1) in
                let both : Some (Read read.vcpu page read.cell read.value) ≡ Some (Release r.0 page) = sym read.reads ∙ ap (λ j. slice_get s.guest j) (sym same) ∙ r.1 in
                cc

        follows_first : (place : ℕ) → first_placement s page ≡ Some place → MayFollow s place t
        follows_first place is m k lt at = by (cases_lt k place)
          where
            f : IsFirstAt (λ (m : ℕ). is_placement_of page) s.pager (length s.pager) place
            f = first_some (λ m. is_placement_of page) s.pager (length s.pager) place is

            taken : k < cursors_from at_start past Pager
            taken = here.cut.sent_taken (Guest, m) (Pager, k) (omega (arith, lt, first.1, n_is)) (ap (λ o. if_there guest_receipt o) at)

            by : (k < place) ⊎ (place ≤ k) → k < place
            by (inl less) = less
            by (inr le) = clash _ (earlier_true (is_placement_of page) s.pager place (cursors_from at_start past Pager) f.by f.stands f.passes_test (omega (arith, taken, le))) parts.0

        go : (o : Option ℕ) → first_placement s page ≡ o → ⊥
        go None none = not_unplaced none needs
        go (Some place) is = not_early place is needs (follows_first place is)

    not_there : (world_after s past).resident page ≡ true → (world_after s past).target page read.cell ≡ read.value → ⊥
    not_there resident is = go (right_or_given s shape fits n read.vcpu page read.cell read.value read.reads order merging past stands resident is)
      where
        go : (read.value ≡ flat s n page read.cell) ⊎ ((q : ℕ) × MayGive s n page read.cell read.value q) → ⊥
        go (inl same) = read.is_wrong same
        go (inr given) = no_giver (suc given.0) given.0 (omega arith) given.1

    neither : (b : Bool) → (world_after s past).resident page ≡ b → ((world_after s past).target page read.cell ≡ read.value) ⊎ ((world_after s past).resident page ≡ false) → ⊥
    neither false absent shown = not_absent absent
    neither true resident (inl is) = not_there resident is
    neither true resident (inr absent) = clash _ resident absent

  pub unexplained : (order : List Name) → Explains s n order → ⊥
  unexplained order e = go e.read.at.is e.explains
    where
      go : slice_get s.guest n ≡ Some (Read e.read.vcpu e.read.page e.read.cell e.read.value) → (e.read.world.target e.read.page e.read.cell ≡ e.read.value) ⊎ (e.read.world.resident e.read.page ≡ false) → ⊥
      go is shown =
          let both : Some (Read e.read.vcpu e.read.page e.read.cell e.read.value) ≡ Some (Read read.vcpu page read.cell read.value) = sym is ∙ read.reads in
          let page_is : e.read.page ≡ page = cc in
          let cell_is : e.read.cell ≡ read.cell = cc in
          let value_is : e.read.value ≡ read.value = cc in
          neither order e.read.merging e.read.at.earlier e.read.at.stands ((world_after s e.read.at.earlier).resident page) refl (to_own page_is cell_is value_is shown)
        where
          to_own : e.read.page ≡ page → e.read.cell ≡ read.cell → e.read.value ≡ read.value → (e.read.world.target e.read.page e.read.cell ≡ e.read.value) ⊎ (e.read.world.resident e.read.page ≡ false) → ((world_after s e.read.at.earlier).target page read.cell ≡ read.value) ⊎ ((world_after s e.read.at.earlier).resident page ≡ false)
          to_own page_is cell_is value_is (inl is) = inl (sym (ap (λ (u : World). u.target page read.cell) e.read.at.world) ∙ ap (λ c. e.read.world.target page c) (sym cell_is) ∙ ap (λ p. e.read.world.target p e.read.cell) (sym page_is) ∙ is ∙ value_is)
          to_own page_is cell_is value_is (inr absent) = inr (sym (ap (λ (u : World). u.resident page) e.read.at.world) ∙ ap (λ p. e.read.world.resident p) (sym page_is) ∙ absent)
