-- What a right entry says of its page, whichever entry it is.
use Rattle.std.proofs.Common.{◌⊎◌, inl, inr, ◌≡◌, ℕ, ◌<◌, ◌≤◌, true, false, List, Option, Some, None, refl, sym, ap, ◌∙◌, arith, eq-eqb}
use Rattle.std.specs.Prelude.{slice_get, ◌==◌}
use Rattle.migration_types.specs.declared.records.GuestRec.TheVariants.{See}
use Rattle.migration_types.specs.declared.records.PagerRec.{PagerRec}
use Rattle.migration_types.specs.declared.records.PagerRec.TheVariants.{Place, Zero}
use Rattle.migration_types.specs.Sessions.{Recorded}
use Rattle.migration_types.specs.declared.cert.First.{First}
use Rattle.migration_types.specs.declared.cert.Entry.{Entry}
use Rattle.migration_types.specs.declared.cert.First.{First}
use Rattle.migration_types.specs.declared.cert.Entry.{Entry}
use Rattle.migration_types.specs.declared.cert.Entry.TheVariants.{Nothing, Fresh, Source, Balloon}
use Rattle.migration_types.specs.Memory.{page_of}
use Rattle.audit_model.specs.Flat.{flat, in_ledger, at_halt}
use Rattle.audit_model.specs.Shape.{is_placement_of}
use Rattle.audit_model.specs.Certificates.{IsLateTouch, IsHonest, IsCovered, IsFresh, IsRightEntry}

-- a late touch has a look at the page's placement, or at a later one, before it
pub record HasLook (s : Recorded) (page n : ℕ) : Type 0 where
  pub place : ℕ
  pub by : PagerRec
  pub stands : slice_get s.pager place ≡ Some by
  pub places : is_placement_of page by ≡ true
  pub see : ℕ
  pub placement : ℕ
  pub sees : slice_get s.guest see ≡ Some (See placement)
  pub covers : place ≤ placement
  pub is_earlier : see < n

-- the page is never placed, and its first touch after handover was a release
abbrev pub IsFreedFirst : Recorded → ℕ → Type 0
IsFreedFirst s page = (first : ℕ) × IsFresh s page first

pub record IsKept (s : Recorded) (page : ℕ) : Type 0 where
  pub honest : IsHonest s page
  pub once : (n m : ℕ) (r t : PagerRec) → slice_get s.pager n ≡ Some r → slice_get s.pager m ≡ Some t → is_placement_of page r ≡ true → is_placement_of page t ≡ true → n ≡ m
  pub placed_flat : (n got : ℕ) (content : List ℕ) → slice_get s.pager n ≡ Some (Place page got content) → content ≡ page_of s.geometry.cells (flat s (at_halt s)) page
  pub zeroed_released : (n : ℕ) → slice_get s.pager n ≡ Some (Zero page) → in_ledger s (at_halt s) page ≡ true
  pub looks : (n : ℕ) → IsLateTouch s page n → HasLook s page n ⊎ IsFreedFirst s page

pub itself : (p : ℕ) → (p == p) ≡ true
itself p = eq-eqb p p refl

looks_from : (s : Recorded) (page place : ℕ) (by : PagerRec) (first : Option First) → slice_get s.pager place ≡ Some by → is_placement_of page by ≡ true → IsCovered s page place first → (n : ℕ) → IsLateTouch s page n → HasLook s page n
looks_from s page place by None is places covered n late = absurd (covered n late)
looks_from s page place by (Some first) is places covered n late =
    record {
      place = place;
      by = by;
      stands = is;
      places = places;
      see = first.see;
      placement = covered.placement;
      sees = covered.sees;
      covers = covered.covers;
      is_earlier = omega (arith, covered.is_earlier, covered.is_first n late);
    }

pub kept_from : (s : Recorded) (page : ℕ) (entry : Entry) → IsRightEntry s page entry → IsKept s page
kept_from s page Nothing right =
    let no : (n : ℕ) (r : PagerRec) → slice_get s.pager n ≡ Some r → is_placement_of page r ≡ true → ⊥ = λ n r is e. let f = right.1.unplaced n r is in cc in
    record {
      honest = right.0;
      once = λ n m r t is js e f. absurd (no n r is e);
      placed_flat = λ n got content is. absurd (no n (Place page got content) is (itself page));
      zeroed_released = λ n is. absurd (no n (Zero page) is (itself page));
      looks = λ n late. absurd (right.1.untouched n late);
    }
kept_from s page (Fresh f) right =
    let no : (n : ℕ) (r : PagerRec) → slice_get s.pager n ≡ Some r → is_placement_of page r ≡ true → ⊥ = λ n r is e. let f = right.1.unplaced n r is in cc in
    record {
      honest = right.0;
      once = λ n m r t is js e f. absurd (no n r is e);
      placed_flat = λ n got content is. absurd (no n (Place page got content) is (itself page));
      zeroed_released = λ n is. absurd (no n (Zero page) is (itself page));
      looks = λ n late. inr (f, right.1);
    }
kept_from s page (Source send place first) right =
    let o = right.1 in
    let at : (n : ℕ) (r : PagerRec) → slice_get s.pager n ≡ Some r → is_placement_of page r ≡ true → Some r ≡ Some (Place page o.got o.content) = λ n r is e. sym is ∙ ap (λ k. slice_get s.pager k) (o.is_only n r is e) ∙ o.is_placed in
    record {
      honest = right.0;
      once = λ n m r t is js e f. o.is_only n r is e ∙ sym (o.is_only m t js f);
      placed_flat = λ n got content is. let e = at n (Place page got content) is (itself page) in let f : content ≡ o.content = cc in f ∙ o.is_flat;
      zeroed_released = λ n is. let e = at n (Zero page) is (itself page) in absurd (cc);
      looks = λ n late. inl (looks_from s page place (Place page o.got o.content) first o.is_placed (itself page) o.is_covered n late);
    }
kept_from s page (Balloon place first) right =
    let o = right.1 in
    let at : (n : ℕ) (r : PagerRec) → slice_get s.pager n ≡ Some r → is_placement_of page r ≡ true → Some r ≡ Some (Zero page) = λ n r is e. sym is ∙ ap (λ k. slice_get s.pager k) (o.is_only n r is e) ∙ o.is_zeroed in
    record {
      honest = right.0;
      once = λ n m r t is js e f. o.is_only n r is e ∙ sym (o.is_only m t js f);
      placed_flat = λ n got content is. let e = at n (Place page got content) is (itself page) in absurd (cc);
      zeroed_released = λ n is. o.is_released;
      looks = λ n late. inl (looks_from s page place (Zero page) first o.is_zeroed (itself page) o.is_covered n late);
    }

-- a page that is placed with contents was owed
pub placed_owed : (s : Recorded) (page : ℕ) (entry : Entry) → IsRightEntry s page entry → (n got : ℕ) (content : List ℕ) → slice_get s.pager n ≡ Some (Place page got content) → in_ledger s (at_halt s) page ≡ false
placed_owed s page Nothing right n got content is = let f = right.1.unplaced n (Place page got content) is in let e = itself page in absurd (cc)
placed_owed s page (Fresh f) right n got content is = let f = right.1.unplaced n (Place page got content) is in let e = itself page in absurd (cc)
placed_owed s page (Source send place first) right n got content is = right.0.owed send right.1.sent right.1.is_sent
placed_owed s page (Balloon place first) right n got content is =
    let o = right.1 in
    let e : Some (Place page got content) ≡ Some (Zero page) = sym is ∙ ap (λ k. slice_get s.pager k) (o.is_only n (Place page got content) is (itself page)) ∙ o.is_zeroed in
    absurd (cc)
