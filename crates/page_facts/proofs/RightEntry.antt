-- The test of an entry decides whether it is right.
use Rattle.std.proofs.Common.{◌≡◌, ℕ, ◌<◌, ◌≤◌, ◌⊎◌, inl, inr, Bool, true, false, not, ◌&&◌, ◌||◌, List, length, Option, Some, None, refl, sym, ap, ◌∙◌, subst, arith}
use Rattle.std.specs.Prelude.{slice_get, ◌==◌, nat_lt, is_some}
use Rattle.std.specs.Str.{bytes_eq}
use Rattle.std.proofs.lemmas.Bool.{cases_lt, cases_order, and_parts, and_from, or_cases, or_right, or_parts, eqb-true, ltb-true, leb-true, lt-ltb, le-leb, not-true, not_from_false}
use Rattle.std.proofs.Common.{eq-eqb}
use Rattle.std.proofs.lemmas.Option.{slice_get_within}
use Rattle.std.proofs.lemmas.Slice.Eq.{bytes_eq-Decides}
use Rattle.migration_types.specs.declared.records.GuestRec.{GuestRec}
use Rattle.migration_types.specs.declared.records.GuestRec.TheVariants.{Read, Release, See}
use Rattle.migration_types.specs.declared.records.SourceRec.{SourceRec}
use Rattle.migration_types.specs.declared.records.SourceRec.TheVariants.{Send}
use Rattle.migration_types.specs.declared.records.PagerRec.{PagerRec}
use Rattle.migration_types.specs.declared.records.PagerRec.TheVariants.{Place, Zero}
use Rattle.migration_types.specs.Memory.{page_of}
use Rattle.migration_types.specs.Sessions.{Recorded}
use Rattle.migration_types.specs.declared.cert.First.{First}
use Rattle.migration_types.specs.declared.cert.Entry.{Entry}
use Rattle.migration_types.specs.declared.cert.Entry.TheVariants.{Nothing, Fresh, Source, Balloon}
use Rattle.audit_model.specs.declared.home.Home.{Home}
use Rattle.audit_model.specs.declared.home.Home.TheVariants.{AtSource, Nowhere, AtTarget}
use Rattle.audit_model.specs.Flat.{flat, in_ledger, home, is_target, at_halt}
use Rattle.audit_model.specs.Shape.{passes, is_release, is_placement_of}
use Rattle.audit_model.specs.Certificates.{is_touch_of, IsLateTouch, IsHonest, IsOnlyPlacement, IsCovered, IsNothing, IsFresh, IsFromSource, IsBalloon, IsOf, IsRightEntry}
use Rattle.page_facts.specs.declared.facts.PageFacts.{PageFacts}
use Rattle.page_facts.specs.Tables.{some_before, first_before}
use Rattle.page_facts.specs.Facts.{IsFacts}
use Rattle.page_facts.specs.Judged.{is_wrong_read, is_wrong_send, is_altered, is_late_touch, releases_at}
use Rattle.page_facts.specs.Looks.{first_look}
use Rattle.page_facts.specs.Moved.{is_again, origin_at}
use Rattle.page_facts.specs.inner.EntryTests.{is_place, is_absent, sees_from, sees_by, zeroes, covers, is_once, is_right_of, is_right_entry}
use Rattle.page_facts.proofs.Before.{some_false, some_true, first_none, first_some, IsFirstAt}
use Rattle.page_facts.proofs.Sighting.{first_sees}
use Rattle.page_facts.proofs.Origins.{placed_from, origin_is}

-- late touches
pub target_is : (h : Home) → is_target h ≡ true → h ≡ AtTarget
target_is AtSource e = absurd (cc)
target_is Nowhere e = absurd (cc)
target_is AtTarget e = refl

late_from : (s : Recorded) (page n : ℕ) (r : GuestRec) → slice_get s.guest n ≡ Some r → is_late_touch s page n r ≡ true → IsLateTouch s page n
late_from s page n r is e = let p = and_parts (is_touch_of page r) (is_target (home s n)) e in record { by = r; stands = is; is_touch = p.0; is_late = target_is (home s n) p.1 }

late_test : (s : Recorded) (page n : ℕ) (a : IsLateTouch s page n) → is_late_touch s page n a.by ≡ true
late_test s page n a = and_from (is_touch_of page a.by) (is_target (home s n)) a.is_touch (ap (λ h. is_target h) a.is_late)

none_late : (s : Recorded) (page : ℕ) → first_before (is_late_touch s page) s.guest (length s.guest) ≡ None → (n : ℕ) → IsLateTouch s page n → ⊥
none_late s page e n a = let f = first_none (is_late_touch s page) s.guest (length s.guest) e n a.by a.stands (slice_get_within s.guest n a.by a.stands) in let t = late_test s page n a in absurd (cc)

pub first_late : (s : Recorded) (page k : ℕ) → first_before (is_late_touch s page) s.guest (length s.guest) ≡ Some k → IsLateTouch s page k × ((n : ℕ) → IsLateTouch s page n → k ≤ n)
first_late s page k e = (late_from s page k f.by f.stands f.passes_test, λ n a. go n a (cases_lt n k))
  where
    f : IsFirstAt (is_late_touch s page) s.guest (length s.guest) k
    f = first_some (is_late_touch s page) s.guest (length s.guest) k e

    go : (n : ℕ) → IsLateTouch s page n → (n < k) ⊎ (k ≤ n) → k ≤ n
    go n a (inl lt) = let h = f.is_first n a.by a.stands lt in let t = late_test s page n a in absurd (cc)
    go n a (inr le) = le

-- a place that is there
pub place_some : (o : Option ℕ) (place : ℕ) → is_place o place ≡ true → o ≡ Some place
place_some None place e = absurd (cc)
place_some (Some n) place e = ap (λ k. Some k) (eqb-true n place e)

-- covered
pub sees_at : (s : Recorded) (n place : ℕ) → passes (sees_from place) (slice_get s.guest n) ≡ true → (k : ℕ) × (slice_get s.guest n ≡ Some (See k)) × (place ≤ k)
sees_at s n place e = go (slice_get s.guest n) refl e
  where
    at : (r : GuestRec) → slice_get s.guest n ≡ Some r → sees_from place r ≡ true → (k : ℕ) × (slice_get s.guest n ≡ Some (See k)) × (place ≤ k)
    at (See k) is e = (k, is, leb-true place k e)
    at _ is e = absurd (cc)

    go : (o : Option GuestRec) → slice_get s.guest n ≡ o → passes (sees_from place) o ≡ true → (k : ℕ) × (slice_get s.guest n ≡ Some (See k)) × (place ≤ k)
    go None is e = absurd (cc)
    go (Some r) is e = at r is e

-- the page's first look sees its first placement
pub seen_by : (s : Recorded) (page place : ℕ) (look : Option ℕ) (n : ℕ) → first_before (λ m. is_placement_of page) s.pager (length s.pager) ≡ Some place → look ≡ first_look s (length s.guest) page → sees_by s look place n ≡ true → passes (sees_from place) (slice_get s.guest n) ≡ true
seen_by s page place look n first is t = go (or_cases (is_place look n) (passes (sees_from place) (slice_get s.guest n)) t)
  where
    go : (is_place look n ≡ true) ⊎ (passes (sees_from place) (slice_get s.guest n) ≡ true) → passes (sees_from place) (slice_get s.guest n) ≡ true
    go (inl e) = first_sees s page place first n (sym is ∙ place_some look n e)
    go (inr e) = e

pub covered : (s : Recorded) (page place : ℕ) (look touch : Option ℕ) (first : Option First) → first_before (λ m. is_placement_of page) s.pager (length s.pager) ≡ Some place → look ≡ first_look s (length s.guest) page → touch ≡ first_before (is_late_touch s page) s.guest (length s.guest) → covers s look touch place first ≡ true → IsCovered s page place first
covered s page place look None None once sight e t = none_late s page (sym e)
covered s page place look None (Some f) once sight e t = absurd (cc)
covered s page place look (Some k) None once sight e t = absurd (cc)
covered s page place look (Some k) (Some f) once sight e t =
    let p = and_parts ((k == f.access) && nat_lt f.see k) (sees_by s look place f.see) t in
    let q = and_parts (k == f.access) (nat_lt f.see k) p.0 in
    let same : k ≡ f.access = eqb-true k f.access q.0 in
    let first = first_late s page k (sym e) in
    let see = sees_at s f.see place (seen_by s page place look f.see once sight p.1) in
    let lt = ltb-true f.see k q.1 in
    record {
      is_touch = subst (λ n. IsLateTouch s page n) same first.0;
      is_first = λ n a. omega (arith, first.1 n a, same);
      placement = see.0;
      sees = see.1;
      covers = see.2;
      is_earlier = omega (arith, same);
    }

pub covers_from : (s : Recorded) (page place : ℕ) (look touch : Option ℕ) (first : Option First) → touch ≡ first_before (is_late_touch s page) s.guest (length s.guest) → IsCovered s page place first → covers s look touch place first ≡ true
covers_from s page place look None None e c = refl
covers_from s page place look None (Some f) e c = absurd (none_late s page (sym e) f.access c.is_touch)
covers_from s page place look (Some k) None e c = absurd (c k (first_late s page k (sym e)).0)
covers_from s page place look (Some k) (Some f) e c =
    let first = first_late s page k (sym e) in
    let low = first.1 f.access c.is_touch in
    let high = c.is_first k first.0 in
    let early = c.is_earlier in
    let sees : passes (sees_from place) (slice_get s.guest f.see) ≡ true = ap (λ o. passes (sees_from place) o) c.sees ∙ le-leb place c.placement c.covers in
    and_from ((k == f.access) && nat_lt f.see k) (sees_by s look place f.see) (and_from (k == f.access) (nat_lt f.see k) (eq-eqb k f.access (omega arith)) (lt-ltb f.see k (omega arith))) (or_right (is_place look f.see) (passes (sees_from place) (slice_get s.guest f.see)) sees)

-- honest
content_is : (xs ys : List ℕ) → not (bytes_eq xs ys) ≡ false → xs ≡ ys
content_is xs ys e = (bytes_eq-Decides xs ys).0 (go (bytes_eq xs ys) refl e)
  where
    go : (b : Bool) → bytes_eq xs ys ≡ b → not b ≡ false → bytes_eq xs ys ≡ true
    go true t e = t
    go false t e = absurd (cc)

same_page : (p : ℕ) → (p == p) ≡ true
same_page p = eq-eqb p p refl

pub honest : (s : Recorded) (page : ℕ) → some_before (is_wrong_read s page) s.guest (length s.guest) ≡ false → some_before (is_wrong_send s page) s.source (length s.source) ≡ false → IsHonest s page
honest s page reads sends = record {
  reads = λ n v c x is. read n v c x (some_false (is_wrong_read s page) s.guest (length s.guest) reads n (Read v page c x) is (slice_get_within s.guest n _ is));
  sends = λ n content is. content_is content (page_of s.geometry.cells (flat s (at_halt s)) page) (or_parts _ _ (send n content (some_false (is_wrong_send s page) s.source (length s.source) sends n (Send page content) is (slice_get_within s.source n _ is)))).0;
  owed = λ n content is. (or_parts _ _ (send n content (some_false (is_wrong_send s page) s.source (length s.source) sends n (Send page content) is (slice_get_within s.source n _ is)))).1;
}
  where
    read : (n v c x : ℕ) → ((page == page) && not (x == flat s n page c)) ≡ false → x ≡ flat s n page c
    read n v c x e = go (x == flat s n page c) refl (sym (ap (λ b. b && not (x == flat s n page c)) (same_page page)) ∙ e)
      where
        go : (b : Bool) → (x == flat s n page c) ≡ b → not b ≡ false → x ≡ flat s n page c
        go true t e = eqb-true x (flat s n page c) t
        go false t e = absurd (cc)

    send : (n : ℕ) (content : List ℕ) → ((page == page) && (not (bytes_eq content (page_of s.geometry.cells (flat s (at_halt s)) page)) || in_ledger s (at_halt s) page)) ≡ false → (not (bytes_eq content (page_of s.geometry.cells (flat s (at_halt s)) page)) || in_ledger s (at_halt s) page) ≡ false
    send n content e = sym (ap (λ b. b && (not (bytes_eq content (page_of s.geometry.cells (flat s (at_halt s)) page)) || in_ledger s (at_halt s) page)) (same_page page)) ∙ e

pub honest_reads : (s : Recorded) (page : ℕ) → IsHonest s page → some_before (is_wrong_read s page) s.guest (length s.guest) ≡ false
honest_reads s page h = go (some_before (is_wrong_read s page) s.guest (length s.guest)) refl
  where
    at : (n : ℕ) (r : GuestRec) → slice_get s.guest n ≡ Some r → is_wrong_read s page n r ≡ true → ⊥
    at n (Read v p c x) is t =
        let parts = and_parts (p == page) (not (x == flat s n p c)) t in
        let same : p ≡ page = eqb-true p page parts.0 in
        let flat_is : x ≡ flat s n p c = subst (λ q. x ≡ flat s n q c) (sym same) (h.reads n v c x (subst (λ q. slice_get s.guest n ≡ Some (Read v q c x)) same is)) in
        let yes_same = eq-eqb x (flat s n p c) flat_is in
        let f = not-true (x == flat s n p c) parts.1 in
        absurd (cc)
    at n _ is t = absurd (cc)

    go : (b : Bool) → some_before (is_wrong_read s page) s.guest (length s.guest) ≡ b → b ≡ false
    go false e = refl
    go true e = let w = some_true (is_wrong_read s page) s.guest (length s.guest) e in absurd (at w.0 w.1 w.2 w.3)

pub honest_sends : (s : Recorded) (page : ℕ) → IsHonest s page → some_before (is_wrong_send s page) s.source (length s.source) ≡ false
honest_sends s page h = go (some_before (is_wrong_send s page) s.source (length s.source)) refl
  where
    at : (n : ℕ) (r : SourceRec) → slice_get s.source n ≡ Some r → is_wrong_send s page n r ≡ true → ⊥
    at n (Send p content) is t = split (or_cases (not (bytes_eq content (page_of s.geometry.cells (flat s (at_halt s)) p))) (in_ledger s (at_halt s) p) parts.1)
      where
        parts : ((p == page) ≡ true) × ((not (bytes_eq content (page_of s.geometry.cells (flat s (at_halt s)) p)) || in_ledger s (at_halt s) p) ≡ true)
        parts = and_parts _ _ t

        same : page ≡ p
        same = sym (eqb-true p page parts.0)

        own : slice_get s.source n ≡ Some (Send page content)
        own = is ∙ ap (λ q. Some (Send q content)) (sym same)

        split : (not (bytes_eq content (page_of s.geometry.cells (flat s (at_halt s)) p)) ≡ true) ⊎ (in_ledger s (at_halt s) p ≡ true) → ⊥
        split (inl d) =
            let e : content ≡ page_of s.geometry.cells (flat s (at_halt s)) p = subst (λ q. content ≡ page_of s.geometry.cells (flat s (at_halt s)) q) same (h.sends n content own) in
            let y = (bytes_eq-Decides content (page_of s.geometry.cells (flat s (at_halt s)) p)).1 e in
            let f = not-true _ d in
            absurd (cc)
        split (inr l) = let f : in_ledger s (at_halt s) p ≡ false = subst (λ q. in_ledger s (at_halt s) q ≡ false) same (h.owed n content own) in absurd (cc)
    at n _ is t = absurd (cc)

    go : (b : Bool) → some_before (is_wrong_send s page) s.source (length s.source) ≡ b → b ≡ false
    go false e = refl
    go true e = let w = some_true (is_wrong_send s page) s.source (length s.source) e in absurd (at w.0 w.1 w.2 w.3)

-- placements
some_placed : (s : Recorded) (page n m : ℕ) (r : PagerRec) → slice_get s.pager m ≡ Some r → is_placement_of page r ≡ true → m < n → is_some (first_before (λ m. is_placement_of page) s.pager n) ≡ true
some_placed s page n m r is t lt = go (first_before (λ m. is_placement_of page) s.pager n) refl
  where
    go : (o : Option ℕ) → first_before (λ m. is_placement_of page) s.pager n ≡ o → is_some o ≡ true
    go None e = let f = first_none (λ m. is_placement_of page) s.pager n e m r is lt in absurd (cc)
    go (Some k) e = refl

pub only_from : (s : Recorded) (page place : ℕ) → first_before (λ m. is_placement_of page) s.pager (length s.pager) ≡ Some place → some_before (is_again s page) s.pager (length s.pager) ≡ false → IsOnlyPlacement s page place
only_from s page place first again n r is t = go (cases_order n place)
  where
    f : IsFirstAt (λ m. is_placement_of page) s.pager (length s.pager) place
    f = first_some (λ m. is_placement_of page) s.pager (length s.pager) place first

    go : (n ≡ place) ⊎ ((n < place) ⊎ (place < n)) → n ≡ place
    go (inl same) = same
    go (inr (inl lt)) = let h = f.is_first n r is lt in absurd (cc)
    go (inr (inr gt)) =
        let h = some_false (is_again s page) s.pager (length s.pager) again n r is (slice_get_within s.pager n r is) in
        let y = and_from (is_placement_of page r) (is_some (first_before (λ m. is_placement_of page) s.pager n)) t (some_placed s page n place f.by f.stands f.passes_test gt) in
        absurd (cc)

pub only_first : (s : Recorded) (page place : ℕ) (r : PagerRec) → slice_get s.pager place ≡ Some r → is_placement_of page r ≡ true → IsOnlyPlacement s page place → first_before (λ m. is_placement_of page) s.pager (length s.pager) ≡ Some place
only_first s page place r is t only = go (first_before (λ m. is_placement_of page) s.pager (length s.pager)) refl
  where
    go : (o : Option ℕ) → first_before (λ m. is_placement_of page) s.pager (length s.pager) ≡ o → o ≡ Some place
    go None e = let f = first_none (λ m. is_placement_of page) s.pager (length s.pager) e place r is (slice_get_within s.pager place r is) in absurd (cc)
    go (Some k) e = let f = first_some (λ m. is_placement_of page) s.pager (length s.pager) k e in ap (λ i. Some i) (only k f.by f.stands f.passes_test)

pub only_again : (s : Recorded) (page place : ℕ) → IsOnlyPlacement s page place → some_before (is_again s page) s.pager (length s.pager) ≡ false
only_again s page place only = go (some_before (is_again s page) s.pager (length s.pager)) refl
  where
    at : (n : ℕ) (r : PagerRec) → slice_get s.pager n ≡ Some r → is_again s page n r ≡ true → ⊥
    at n r is t = from (first_before (λ m. is_placement_of page) s.pager n) refl parts.1
      where
        parts : (is_placement_of page r ≡ true) × (is_some (first_before (λ m. is_placement_of page) s.pager n) ≡ true)
        parts = and_parts _ _ t

        from : (o : Option ℕ) → first_before (λ m. is_placement_of page) s.pager n ≡ o → is_some o ≡ true → ⊥
        from None e h = absurd (cc)
        from (Some k) e h =
            let f = first_some (λ m. is_placement_of page) s.pager n k e in
            let a = only n r is parts.0 in
            let b = only k f.by f.stands f.passes_test in
            let lt = f.below in
            absurd (omega (arith, a, b, lt))

    go : (b : Bool) → some_before (is_again s page) s.pager (length s.pager) ≡ b → b ≡ false
    go false e = refl
    go true e = let w = some_true (is_again s page) s.pager (length s.pager) e in absurd (at w.0 w.1 w.2 w.3)

-- a placement that is altered is a placement
altered_placed : (s : Recorded) (page n : ℕ) (r : PagerRec) → is_altered s page n r ≡ true → is_placement_of page r ≡ true
altered_placed s page n (Place p got content) t = (and_parts (p == page) (not (bytes_eq content (page_of s.geometry.cells (flat s (at_halt s)) p))) t).0
altered_placed s page n (Zero p) t = (and_parts (p == page) (not (in_ledger s (at_halt s) p)) t).0
altered_placed s page n _ t = absurd (cc)

only_altered : (s : Recorded) (page place : ℕ) (r : PagerRec) → slice_get s.pager place ≡ Some r → IsOnlyPlacement s page place → is_altered s page place r ≡ false → some_before (is_altered s page) s.pager (length s.pager) ≡ false
only_altered s page place r is only fine = go (some_before (is_altered s page) s.pager (length s.pager)) refl
  where
    go : (b : Bool) → some_before (is_altered s page) s.pager (length s.pager) ≡ b → b ≡ false
    go false e = refl
    go true e =
        let w = some_true (is_altered s page) s.pager (length s.pager) e in
        let same : w.0 ≡ place = only w.0 w.1 w.2 (altered_placed s page w.0 w.1 w.3) in
        let own : slice_get s.pager place ≡ Some w.1 = subst (λ k. slice_get s.pager k ≡ Some w.1) same w.2 in
        let one : w.1 ≡ r = cc in
        let t : is_altered s page place r ≡ true = ap (λ x. is_altered s page place x) (sym one) ∙ (subst (λ k. is_altered s page k w.1 ≡ true) same w.3) in
        absurd (cc)

place_content : (s : Recorded) (page n got : ℕ) (content : List ℕ) → is_altered s page n (Place page got content) ≡ false → content ≡ page_of s.geometry.cells (flat s (at_halt s)) page
place_content s page n got content e = content_is content (page_of s.geometry.cells (flat s (at_halt s)) page) (sym (ap (λ b. b && not (bytes_eq content (page_of s.geometry.cells (flat s (at_halt s)) page))) (same_page page)) ∙ e)

content_place : (s : Recorded) (page n got : ℕ) (content : List ℕ) → content ≡ page_of s.geometry.cells (flat s (at_halt s)) page → is_altered s page n (Place page got content) ≡ false
content_place s page n got content e = ap (λ b. b && not (bytes_eq content (page_of s.geometry.cells (flat s (at_halt s)) page))) (same_page page) ∙ ap (λ b. not b) ((bytes_eq-Decides content (page_of s.geometry.cells (flat s (at_halt s)) page)).1 e)

zero_ledger : (s : Recorded) (page n : ℕ) → is_altered s page n (Zero page) ≡ false → in_ledger s (at_halt s) page ≡ true
zero_ledger s page n e = go (in_ledger s (at_halt s) page) refl (sym (ap (λ b. b && not (in_ledger s (at_halt s) page)) (same_page page)) ∙ e)
  where
    go : (b : Bool) → in_ledger s (at_halt s) page ≡ b → not b ≡ false → in_ledger s (at_halt s) page ≡ true
    go true t h = t
    go false t h = absurd (cc)

ledger_zero : (s : Recorded) (page n : ℕ) → in_ledger s (at_halt s) page ≡ true → is_altered s page n (Zero page) ≡ false
ledger_zero s page n e = ap (λ b. b && not (in_ledger s (at_halt s) page)) (same_page page) ∙ ap (λ b. not b) e

-- the parts of `is_once`
pub absent_none : (o : Option ℕ) → is_absent o ≡ true → o ≡ None
absent_none None e = refl
absent_none (Some n) e = absurd (cc)

record IsOnce (f : PageFacts) (place : ℕ) : Type 0 where
  placement : f.placement ≡ Some place
  again : f.again ≡ false
  altered : f.altered ≡ false

once_from : (f : PageFacts) (place : ℕ) → is_once f place ≡ true → IsOnce f place
once_from f place t =
    let p = and_parts (is_place f.placement place && not f.again) (not f.altered) t in
    let q = and_parts (is_place f.placement place) (not f.again) p.0 in
    record { placement = place_some f.placement place q.0; again = not-true f.again q.1; altered = not-true f.altered p.1 }

once_test : (f : PageFacts) (place : ℕ) → IsOnce f place → is_once f place ≡ true
once_test f place o = and_from (is_place f.placement place && not f.again) (not f.altered) (and_from (is_place f.placement place) (not f.again) (ap (λ x. is_place x place) o.placement ∙ same_page place) (not_from_false f.again o.again)) (not_from_false f.altered o.altered)

-- what stands at a place
pub zero_at : (s : Recorded) (page place : ℕ) → passes (zeroes page) (slice_get s.pager place) ≡ true → slice_get s.pager place ≡ Some (Zero page)
zero_at s page place e = go (slice_get s.pager place) refl e
  where
    at : (r : PagerRec) → slice_get s.pager place ≡ Some r → zeroes page r ≡ true → slice_get s.pager place ≡ Some (Zero page)
    at (Zero p) is t = is ∙ ap (λ q. Some (Zero q)) (eqb-true p page t)
    at _ is t = absurd (cc)

    go : (o : Option PagerRec) → slice_get s.pager place ≡ o → passes (zeroes page) o ≡ true → slice_get s.pager place ≡ Some (Zero page)
    go None is t = absurd (cc)
    go (Some r) is t = at r is t

-- a touch that is a release
pub release_of : (s : Recorded) (page n : ℕ) → IsLateTouch s page n → releases_at s (Some n) ≡ true → (vcpu : ℕ) × (slice_get s.guest n ≡ Some (Release vcpu page))
release_of s page n touch e = at touch.by touch.stands touch.is_touch (sym (ap (λ o. passes is_release o) touch.stands) ∙ e)
  where
    at : (r : GuestRec) → slice_get s.guest n ≡ Some r → is_touch_of page r ≡ true → is_release r ≡ true → (vcpu : ℕ) × (slice_get s.guest n ≡ Some (Release vcpu page))
    at (Release v p) is t e = (v, is ∙ ap (λ q. Some (Release v q)) (eqb-true p page t))
    at _ is t e = absurd (cc)

pub touch_of : (s : Recorded) (page vcpu n : ℕ) → slice_get s.guest n ≡ Some (Release vcpu page) → home s n ≡ AtTarget → IsLateTouch s page n
touch_of s page vcpu n is late = record { by = Release vcpu page; stands = is; is_touch = same_page page; is_late = late }

-- the first touch is the first that passes
pub late_first : (s : Recorded) (page n : ℕ) → IsLateTouch s page n → ((m : ℕ) → IsLateTouch s page m → n ≤ m) → first_before (is_late_touch s page) s.guest (length s.guest) ≡ Some n
late_first s page n touch first = go (first_before (is_late_touch s page) s.guest (length s.guest)) refl
  where
    go : (o : Option ℕ) → first_before (is_late_touch s page) s.guest (length s.guest) ≡ o → o ≡ Some n
    go None e = absurd (none_late s page e n touch)
    go (Some k) e = let h = first_late s page k e in let low = h.1 n touch in let high = first k h.0 in let same : k ≡ n = omega (arith, low, high) in ap (λ i. Some i) same

-- the test is the definition
module _ (s : Recorded) (page : ℕ) (f : PageFacts) (facts : IsFacts s page f) where
  nothing_from : is_right_of s page f Nothing ≡ true → IsNothing s page
  nothing_from t =
      let p = and_parts (is_absent f.placement) (is_absent f.touch) t in
      record {
        unplaced = λ n r is. first_none (λ m. is_placement_of page) s.pager (length s.pager) (sym facts.placement ∙ absent_none f.placement p.0) n r is (slice_get_within s.pager n r is);
        untouched = none_late s page (sym facts.touch ∙ absent_none f.touch p.1);
      }

  fresh_from : (first : ℕ) → is_right_of s page f (Fresh first) ≡ true → IsFresh s page first
  fresh_from first t =
      let p = and_parts (is_absent f.placement && is_place f.touch first) f.releases t in
      let q = and_parts (is_absent f.placement) (is_place f.touch first) p.0 in
      let at = place_some f.touch first q.1 in
      let late = first_late s page first (sym facts.touch ∙ at) in
      let by = release_of s page first late.0 (sym (facts.releases ∙ ap (λ o. releases_at s o) at) ∙ p.1) in
      record {
        unplaced = λ n r is. first_none (λ m. is_placement_of page) s.pager (length s.pager) (sym facts.placement ∙ absent_none f.placement q.0) n r is (slice_get_within s.pager n r is);
        vcpu = by.0;
        is_release = by.1;
        is_late = late.0.is_late;
        is_first = late.1;
      }

  source_from : (send place : ℕ) (first : Option First) → is_right_of s page f (Source send place first) ≡ true → IsFromSource s page send place first
  source_from send place first t =
      let a = and_parts (is_place f.sent send && is_once f place) (covers s f.look f.touch place first) t in
      let b = and_parts (is_place f.sent send) (is_once f place) a.0 in
      let once = once_from f place b.1 in
      let placed = sym facts.placement ∙ once.placement in
      let at = placed_from s page send place placed (sym (facts.sent ∙ ap (λ o. origin_at s page o) once.placement) ∙ place_some f.sent send b.0) in
      record {
        sent = at.sent;
        is_sent = at.is_sent;
        got = at.got;
        content = at.content;
        is_placed = at.stands;
        delivered = at.delivered;
        is_delivery = at.is_delivery;
        is_the_send = at.is_the_send;
        is_flat = place_content s page place at.got at.content (some_false (is_altered s page) s.pager (length s.pager) (sym facts.altered ∙ once.altered) place (Place page at.got at.content) at.stands (slice_get_within s.pager place (Place page at.got at.content) at.stands));
        is_only = only_from s page place placed (sym facts.again ∙ once.again);
        is_covered = covered s page place f.look f.touch first placed facts.look facts.touch a.1;
      }

  balloon_from : (place : ℕ) (first : Option First) → is_right_of s page f (Balloon place first) ≡ true → IsBalloon s page place first
  balloon_from place first t =
      let a = and_parts (passes (zeroes page) (slice_get s.pager place) && is_once f place) (covers s f.look f.touch place first) t in
      let b = and_parts (passes (zeroes page) (slice_get s.pager place)) (is_once f place) a.0 in
      let at = zero_at s page place b.0 in
      let once = once_from f place b.1 in
      let placed = sym facts.placement ∙ once.placement in
      record {
        is_zeroed = at;
        is_only = only_from s page place placed (sym facts.again ∙ once.again);
        is_released = zero_ledger s page place (some_false (is_altered s page) s.pager (length s.pager) (sym facts.altered ∙ once.altered) place (Zero page) at (slice_get_within s.pager place (Zero page) at));
        is_covered = covered s page place f.look f.touch first placed facts.look facts.touch a.1;
      }

  of_from : (entry : Entry) → is_right_of s page f entry ≡ true → IsOf s page entry
  of_from Nothing t = nothing_from t
  of_from (Fresh first) t = fresh_from first t
  of_from (Source send place first) t = source_from send place first t
  of_from (Balloon place first) t = balloon_from place first t

  pub right_from : (entry : Entry) → is_right_entry s page f entry ≡ true → IsRightEntry s page entry
  right_from entry t =
      let a = and_parts (not f.wrong_read && not f.wrong_send) (is_right_of s page f entry) t in
      let b = and_parts (not f.wrong_read) (not f.wrong_send) a.0 in
      (honest s page (sym facts.wrong_read ∙ not-true f.wrong_read b.0) (sym facts.wrong_send ∙ not-true f.wrong_send b.1), of_from entry a.1)

  none_absent : (o : Option ℕ) → o ≡ None → is_absent o ≡ true
  none_absent o e = ap (λ x. is_absent x) e

  unplaced_none : ((n : ℕ) (r : PagerRec) → slice_get s.pager n ≡ Some r → is_placement_of page r ≡ false) → first_before (λ m. is_placement_of page) s.pager (length s.pager) ≡ None
  unplaced_none h = go (first_before (λ m. is_placement_of page) s.pager (length s.pager)) refl
    where
      go : (o : Option ℕ) → first_before (λ m. is_placement_of page) s.pager (length s.pager) ≡ o → o ≡ None
      go None e = refl
      go (Some k) e = let w = first_some (λ m. is_placement_of page) s.pager (length s.pager) k e in let no_one = h k w.by w.stands in let t = w.passes_test in absurd (cc)

  untouched_none : ((n : ℕ) → IsLateTouch s page n → ⊥) → first_before (is_late_touch s page) s.guest (length s.guest) ≡ None
  untouched_none h = go (first_before (is_late_touch s page) s.guest (length s.guest)) refl
    where
      go : (o : Option ℕ) → first_before (is_late_touch s page) s.guest (length s.guest) ≡ o → o ≡ None
      go None e = refl
      go (Some k) e = absurd (h k (first_late s page k e).0)

  of_test : (entry : Entry) → IsOf s page entry → is_right_of s page f entry ≡ true
  of_test Nothing e = and_from (is_absent f.placement) (is_absent f.touch) (none_absent f.placement (facts.placement ∙ unplaced_none e.unplaced)) (none_absent f.touch (facts.touch ∙ untouched_none e.untouched))
  of_test (Fresh first) e =
      let touch = late_first s page first (touch_of s page e.vcpu first e.is_release e.is_late) e.is_first in
      and_from (is_absent f.placement && is_place f.touch first) f.releases
      (and_from (is_absent f.placement) (is_place f.touch first) (none_absent f.placement (facts.placement ∙ unplaced_none e.unplaced)) (ap (λ o. is_place o first) (facts.touch ∙ touch) ∙ same_page first))
      (facts.releases ∙ ap (λ o. releases_at s o) (facts.touch ∙ touch) ∙ ap (λ o. passes is_release o) e.is_release)
  of_test (Source send place first) e =
      let own : is_placement_of page (Place page e.got e.content) ≡ true = same_page page in
      let placed = facts.placement ∙ only_first s page place (Place page e.got e.content) e.is_placed own e.is_only in
      let once = once_test f place (record {
        placement = placed;
        again = facts.again ∙ only_again s page place e.is_only;
        altered = facts.altered ∙ only_altered s page place (Place page e.got e.content) e.is_placed e.is_only (content_place s page place e.got e.content e.is_flat);
      }) in
      let origin = origin_is s page send place (record {
        got = e.got;
        content = e.content;
        stands = e.is_placed;
        delivered = e.delivered;
        is_delivery = e.is_delivery;
        is_the_send = e.is_the_send;
        sent = e.sent;
        is_sent = e.is_sent;
      }) in
      and_from (is_place f.sent send && is_once f place) (covers s f.look f.touch place first)
      (and_from (is_place f.sent send) (is_once f place) (ap (λ o. is_place o send) (facts.sent ∙ ap (λ o. origin_at s page o) placed ∙ origin) ∙ same_page send) once)
      (covers_from s page place f.look f.touch first facts.touch e.is_covered)
  of_test (Balloon place first) e =
      let own : is_placement_of page (Zero page) ≡ true = same_page page in
      let once = once_test f place (record {
        placement = facts.placement ∙ only_first s page place (Zero page) e.is_zeroed own e.is_only;
        again = facts.again ∙ only_again s page place e.is_only;
        altered = facts.altered ∙ only_altered s page place (Zero page) e.is_zeroed e.is_only (ledger_zero s page place e.is_released);
      }) in
      and_from _ (covers s f.look f.touch place first)
      (and_from (passes (zeroes page) (slice_get s.pager place)) (is_once f place) (ap (λ x. passes (zeroes page) x) e.is_zeroed ∙ same_page page) once)
      (covers_from s page place f.look f.touch first facts.touch e.is_covered)

  pub right_test : (entry : Entry) → IsRightEntry s page entry → is_right_entry s page f entry ≡ true
  right_test entry e =
      and_from (not f.wrong_read && not f.wrong_send) (is_right_of s page f entry)
      (and_from (not f.wrong_read) (not f.wrong_send) (not_from_false f.wrong_read (facts.wrong_read ∙ honest_reads s page e.0)) (not_from_false f.wrong_send (facts.wrong_send ∙ honest_sends s page e.0)))
      (of_test entry e.1)
