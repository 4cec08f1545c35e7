-- Repeats may go.
use Rattle.std.proofs.Common.{◌≡◌, ◌≢◌, ℕ, zero, suc, ◌+◌, ◌<◌, ◌≤◌, ◌⊎◌, inl, inr, ◌==◌, ◌&&◌, not, Bool, true, false, cond, List, [], ◌∷◌, length, map, Option, Some, None, refl, sym, ap, ◌∙◌, subst, arith, eqb-true, eq-eqb}
use Rattle.std.specs.Prelude.{slice_get}
use Rattle.std.specs.List.{range_with_len}
use Rattle.std.proofs.lemmas.Bool.{and_parts, cases_lt}
use Rattle.std.proofs.lemmas.List.{length-map}
use Rattle.migration_types.specs.declared.records.LogName.TheVariants.{Guest, Source, Link, Lane, Pager}
use Rattle.migration_types.specs.declared.records.GuestRec.{GuestRec}
use Rattle.migration_types.specs.declared.records.GuestRec.TheVariants.{Read, Write, Release, Miss, Halt, Resume, See}
use Rattle.migration_types.specs.declared.records.SourceRec.{SourceRec}
use Rattle.migration_types.specs.declared.records.SourceRec.TheVariants.{Halted, Ask}
use Rattle.migration_types.specs.declared.records.LogName.{LogName}
use Rattle.migration_types.specs.declared.records.LinkRec.{LinkRec}
use Rattle.migration_types.specs.declared.records.LaneRec.{LaneRec}
use Rattle.migration_types.specs.declared.records.LinkRec.TheVariants.{Down, Up}
use Rattle.migration_types.specs.declared.records.LaneRec.TheVariants.{Down as LaneDown}
use Rattle.migration_types.specs.declared.records.PagerRec.{PagerRec}
use Rattle.migration_types.specs.declared.records.PagerRec.TheVariants.{Got, Pull, Fault}
use Rattle.migration_types.specs.Receipts.{Name, guest_receipt, source_receipt, link_receipt, lane_receipt, pager_receipt}
use Rattle.migration_types.specs.Sessions.{Recorded}
use Rattle.audit_model.specs.declared.home.Home.{Home}
use Rattle.audit_model.specs.declared.home.Home.TheVariants.{AtSource, Nowhere, AtTarget}
use Rattle.audit_model.specs.declared.reasons.ShapeReason.TheVariants.{Named}
use Rattle.audit_model.specs.Names.{if_there, receipt}
use Rattle.audit_model.specs.Flat.{changed, cell_after, flat, in_ledger, home}
use Rattle.audit_model.specs.Shape.{passes, is_halt, is_miss, keeps, source_named, pager_named, IsRightShape}
use Rattle.audit_model.specs.Worlds.{touched}
use Rattle.audit_model.proofs.PageFaultTests.{not_true}
use Rattle.audit_model.proofs.Walked.{length_range}
use Rattle.kept_faults.specs.Thinned.{HasUsed, IsMisread, decides, IsOverwritten, IsUnseen, IsRepeated, MayGo, IsThinning}
use Rattle.kept_faults.specs.Repeats.{gives, IsTold, has_used, is_repeat, without_repeats}

-- a record that does not decide a cell leaves it as it was
undecided : (page cell : ℕ) (x : GuestRec) (v : ℕ) → decides page cell x ≡ false → cell_after page cell x v ≡ v
undecided page cell (Write w p c y) v e = ap (λ b. cond b y v) e
undecided page cell (Release w p) v e = ap (λ b. cond b 0 v) e
undecided page cell (Read w p c y) v e = refl
undecided page cell (Miss w p) v e = refl
undecided page cell Halt v e = refl
undecided page cell (Resume i) v e = refl
undecided page cell (See k) v e = refl

-- over records that do not decide a cell it stays
stays : (s : Recorded) (m n page cell : ℕ) → m ≤ n → ((k : ℕ) (r : GuestRec) → m ≤ k → k < n → slice_get s.guest k ≡ Some r → decides page cell r ≡ false) → flat s n page cell ≡ flat s m page cell
stays s m zero page cell le none = let e : m ≡ 0 = omega (arith, le) in ap (λ k. flat s k page cell) (sym e)
stays s m (suc n) page cell le none = go (cases_lt n m) (λ l. stays s m n page cell l (λ k r from to. none k r from (omega (arith, to))))
  where
    after : (o : Option GuestRec) → slice_get s.guest n ≡ o → m ≤ n → changed (cell_after page cell) o (flat s n page cell) ≡ flat s n page cell
    after None is l = refl
    after (Some r) is l = undecided page cell r (flat s n page cell) (none n r l (omega arith) is)

    go : (n < m) ⊎ (m ≤ n) → (m ≤ n → flat s n page cell ≡ flat s m page cell) → flat s (suc n) page cell ≡ flat s m page cell
    go (inl lt) rec = let e : suc n ≡ m = omega (arith, le, lt) in ap (λ k. flat s k page cell) e
    go (inr l) rec = after (slice_get s.guest n) refl l ∙ rec l

-- what was told is what the cell has, or the page was misread
told_or_misread : (s : Recorded) (n page cell value : ℕ) → IsTold s n page cell value → (value ≡ flat s n page cell) ⊎ IsMisread s n page
told_or_misread s n page cell value told = at told.by told.stands told.is_given
  where
    lt : told.place < n
    lt = told.is_earlier

    from_next : flat s n page cell ≡ flat s (suc told.place) page cell
    from_next = stays s (suc told.place) n page cell (omega (arith, lt)) (λ k r from to. told.is_unchanged k r (omega (arith, from)) to)

    at : (x : GuestRec) → slice_get s.guest told.place ≡ Some x → gives page cell value x ≡ true → (value ≡ flat s n page cell) ⊎ IsMisread s n page
    at (Write v p c y) is e =
        let a = and_parts (p == page) ((c == cell) && (y == value)) e in
        let b = and_parts (c == cell) (y == value) a.1 in
        let here : flat s (suc told.place) page cell ≡ y =
        ap (λ o. changed (cell_after page cell) o (flat s told.place page cell)) is
        ∙ ap (λ t. cond (t && (c == cell)) y (flat s told.place page cell)) a.0
        ∙ ap (λ t. cond t y (flat s told.place page cell)) b.0 in
        inl (sym (from_next ∙ here ∙ eqb-true y value b.1))
    at (Read v p c y) is e = by (value == flat s told.place page cell) refl
      where
        by : (t : Bool) → (value == flat s told.place page cell) ≡ t → (value ≡ flat s n page cell) ⊎ IsMisread s n page
        by true f = inl (eqb-true value (flat s told.place page cell) f ∙ sym (from_next ∙ ap (λ o. changed (cell_after page cell) o (flat s told.place page cell)) is))
        by false f =
            let a = and_parts (p == page) ((c == cell) && (y == value)) e in
            let b = and_parts (c == cell) (y == value) a.1 in
            inr (record {
              place = told.place;
              vcpu = v;
              cell = cell;
              value = value;
              is_earlier = lt;
              stands = is ∙ ap (λ q. Some (Read v q c y)) (eqb-true p page a.0) ∙ ap (λ d. Some (Read v page d y)) (eqb-true c cell b.0) ∙ ap (λ z. Some (Read v page cell z)) (eqb-true y value b.1);
              is_wrong = λ g. let h = eq-eqb value (flat s told.place page cell) g in cc;
            })
    at x is e = absurd (cc)

pub told_read_may_go : (marks : List Bool) (s : Recorded) (n v page cell value : ℕ) → HasUsed (home s n) (touched s n page) → IsTold s n page cell value → MayGo marks s n (Read v page cell value)
told_read_may_go marks s n v page cell value used told = (used, told_or_misread s n page cell value told)

pub told_write_may_go : (marks : List Bool) (s : Recorded) (n v page cell value : ℕ) → HasUsed (home s n) (touched s n page) → IsTold s n page cell value → in_ledger s n page ≡ false → MayGo marks s n (Write v page cell value)
told_write_may_go marks s n v page cell value used told owed = (used, at (told_or_misread s n page cell value told))
  where
    at : (value ≡ flat s n page cell) ⊎ IsMisread s n page → IsRepeated s n page cell value ⊎ (IsOverwritten marks s n page cell ⊎ (IsUnseen s n page cell ⊎ IsMisread s n page))
    at (inl e) = inl (record { is_flat = e; is_owed = owed })
    at (inr bad) = inr (inr (inr bad))

used_by : (h : Home) (used : Bool) → has_used h used ≡ true → HasUsed h used
used_by AtSource used e = tt
used_by Nowhere used e = absurd (cc)
used_by AtTarget used e = e

repeat_may_go : (marks : List Bool) (s : Recorded) (n : ℕ) (x : GuestRec) → is_repeat s n x ≡ true → MayGo marks s n x
repeat_may_go marks s n (Read v p c y) e =
    let a = and_parts (has_used (home s n) (touched s n p)) (y == flat s n p c) e in
    (used_by (home s n) (touched s n p) a.0, inl (eqb-true y (flat s n p c) a.1))
repeat_may_go marks s n (Write v p c y) e =
    let a = and_parts (has_used (home s n) (touched s n p)) ((y == flat s n p c) && not (in_ledger s n p)) e in
    let b = and_parts (y == flat s n p c) (not (in_ledger s n p)) a.1 in
    (used_by (home s n) (touched s n p) a.0, inl (record { is_flat = eqb-true y (flat s n p c) b.0; is_owed = (not_true (in_ledger s n p)).0 b.1 }))
repeat_may_go marks s n x e = absurd (cc)

mark_at : {A : Type 0} (f : ℕ → Bool) (log : List A) (a n : ℕ) (x : A) → slice_get log n ≡ Some x → slice_get (map f (range_with_len a (length log))) n ≡ Some (f (a + n))
mark_at f [] a n x is = absurd (cc)
mark_at f (y ∷ log) a zero x is = let e : a ≡ a + 0 = omega arith in ap (λ k. Some (f k)) e
mark_at f (y ∷ log) a (suc n) x is = let e : a + 1 + n ≡ a + suc n = omega arith in mark_at f log (a + 1) n x is ∙ ap (λ k. Some (f k)) e

abbrev log_of : Option Name → LogName
log_of None = Guest
log_of (Some name) = name.0

abbrev number_of : Option Name → ℕ
number_of None = 0
number_of (Some name) = name.1

module _ (s : Recorded) where
  mark_is : (n : ℕ) (x : GuestRec) → slice_get s.guest n ≡ Some x → slice_get (without_repeats s) n ≡ Some (not (is_repeat s n x))
  mark_is n x is =
      let e : 0 + n ≡ n = omega arith in
      mark_at (λ k. not (passes (is_repeat s k) (slice_get s.guest k))) s.guest 0 n x is
      ∙ ap (λ k. Some (not (passes (is_repeat s k) (slice_get s.guest k)))) e ∙ ap (λ o. Some (not (passes (is_repeat s n) o))) is

  -- a halt and a miss are kept
  stays_if : (test : GuestRec → Bool) → ((n : ℕ) (x : GuestRec) → test x ≡ true → is_repeat s n x ≡ false) → (n : ℕ) → passes test (slice_get s.guest n) ≡ true → slice_get (without_repeats s) n ≢ Some false
  stays_if test no_repeat n e gone = go (slice_get s.guest n) refl e
    where
      go : (o : Option GuestRec) → slice_get s.guest n ≡ o → passes test o ≡ true → ⊥
      go None is f = cc
      go (Some x) is f =
          let mark : Some (not (is_repeat s n x)) ≡ Some false = sym (mark_is n x is) ∙ gone in
          let none = no_repeat n x f in
          cc

  halt_no_repeat : (n : ℕ) (x : GuestRec) → is_halt x ≡ true → is_repeat s n x ≡ false
  halt_no_repeat n Halt e = refl
  halt_no_repeat n x e = absurd (cc)

  miss_no_repeat : (n : ℕ) (x : GuestRec) → is_miss x ≡ true → is_repeat s n x ≡ false
  miss_no_repeat n (Miss v p) e = refl
  miss_no_repeat n x e = absurd (cc)

  module _ (shape : IsRightShape s) where
    unnamed : (name : Name) (n : ℕ) → receipt s name ≡ Some (Guest, n) → slice_get (without_repeats s) n ≢ Some false
    unnamed (Source, k) n e = go (slice_get s.source k) refl e
      where
        go : (o : Option SourceRec) → slice_get s.source k ≡ o → if_there source_receipt o ≡ Some (Guest, n) → slice_get (without_repeats s) n ≢ Some false
        go (Some (Halted i)) is e =
            let same : i ≡ n = ap number_of e in
            let named = sym (ap (keeps (source_named s k)) is) ∙ shape Named (Source, k) in
            stays_if is_halt halt_no_repeat n (subst (λ j. passes is_halt (slice_get s.guest j) ≡ true) same named)
        go (Some (Ask i)) is e = let f : Link ≡ Guest = ap log_of e in absurd (cc)
        go (Some x) is e = absurd (cc)
        go None is e = absurd (cc)
    unnamed (Pager, k) n e = go (slice_get s.pager k) refl e
      where
        go : (o : Option PagerRec) → slice_get s.pager k ≡ o → if_there pager_receipt o ≡ Some (Guest, n) → slice_get (without_repeats s) n ≢ Some false
        go (Some (Fault i)) is e =
            let same : i ≡ n = ap number_of e in
            let named = sym (ap (keeps (pager_named s k)) is) ∙ shape Named (Pager, k) in
            stays_if is_miss miss_no_repeat n (subst (λ j. passes is_miss (slice_get s.guest j) ≡ true) same named)
        go (Some (Got i)) is e = let f : Link ≡ Guest = ap log_of e in absurd (cc)
        go (Some (Pull i)) is e = let f : Lane ≡ Guest = ap log_of e in absurd (cc)
        go (Some x) is e = absurd (cc)
        go None is e = absurd (cc)
    unnamed (Guest, k) n e = go (slice_get s.guest k) e
      where
        go : (o : Option GuestRec) → if_there guest_receipt o ≡ Some (Guest, n) → slice_get (without_repeats s) n ≢ Some false
        go (Some (Resume i)) e = let f : Pager ≡ Guest = ap log_of e in absurd (cc)
        go (Some (See i)) e = let f : Pager ≡ Guest = ap log_of e in absurd (cc)
        go (Some x) e = absurd (cc)
        go None e = absurd (cc)
    unnamed (Link, k) n e = go (slice_get s.link k) e
      where
        go : (o : Option LinkRec) → if_there link_receipt o ≡ Some (Guest, n) → slice_get (without_repeats s) n ≢ Some false
        go (Some (Down i)) e = let f : Source ≡ Guest = ap log_of e in absurd (cc)
        go (Some (Up i)) e = let f : Pager ≡ Guest = ap log_of e in absurd (cc)
        go None e = absurd (cc)
    unnamed (Lane, k) n e = go (slice_get s.lane k) e
      where
        go : (o : Option LaneRec) → if_there lane_receipt o ≡ Some (Guest, n) → slice_get (without_repeats s) n ≢ Some false
        go (Some (LaneDown i)) e = let f : Source ≡ Guest = ap log_of e in absurd (cc)
        go None e = absurd (cc)

    pub repeats_may_go : IsThinning (without_repeats s) s
    repeats_may_go = record {
      has_marks = length-map (range_with_len 0 (length s.guest)) (λ n. not (passes (is_repeat s n) (slice_get s.guest n))) ∙ length_range 0 (length s.guest);
      may_go = λ n x is gone.
          let mark : Some (not (is_repeat s n x)) ≡ Some false = sym (mark_is n x is) ∙ gone in
          may n x (is_repeat s n x) refl mark;
      is_unnamed = unnamed;
    }
      where
        may : (n : ℕ) (x : GuestRec) (b : Bool) → is_repeat s n x ≡ b → Some (not b) ≡ Some false → MayGo (without_repeats s) s n x
        may n x true e f = repeat_may_go (without_repeats s) s n x e
        may n x false e f = absurd (cc)
