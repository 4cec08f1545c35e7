-- Which pages misshapen records touch, and the faulty ones among the others.
use Rattle.std.proofs.Common.{not, ◌||◌, cond, eqb, leb, ◌≡◌, ◌≢◌, ℕ, ◌<◌, ◌≤◌, Bool, true, false, List, [], ◌∷◌, ◌++◌, length, Option, Some, None, refl, sym, ap, ◌∙◌, subst, arith}
use Rattle.std.specs.Prelude.{Contains, MatchOption, filter, slice_get}
use Rattle.std.specs.List.{All}
use Rattle.std.proofs.lemmas.Bool.{eqb-false, eqb-true, leb-false, leb-true}
use Rattle.std.proofs.lemmas.List.Elements.{All-cons, All-filter, All-head, All-push, All-tail, Contains-append_left, Contains-append_right, filter_passes}
use Rattle.std.proofs.lemmas.List.Kept.{AllPairs-filter}
use Rattle.migration_types.specs.declared.records.LogName.{LogName}
use Rattle.migration_types.specs.declared.records.LogName.TheVariants.{Guest, Source, Link, Lane, Pager}
use Rattle.migration_types.specs.declared.records.GuestRec.{GuestRec}
use Rattle.migration_types.specs.declared.records.GuestRec.TheVariants.{Read, Write, Release, Miss, Halt, Resume, See}
use Rattle.migration_types.specs.Receipts.{Name}
use Rattle.migration_types.specs.Sessions.{Recorded, IsSession}
use Rattle.audit_model.specs.declared.reasons.ShapeReason.{ShapeReason}
use Rattle.audit_model.specs.declared.reasons.ShapeReason.TheVariants.{Start}
use Rattle.audit_model.specs.Shape.{is_right, passes}
use Rattle.page_facts.specs.FaultyPages.{AreFaultyPages, IsFaultyPage}
use Rattle.page_facts.specs.declared.faulty.FaultyPage.{FaultyPage}
use Rattle.page_store.specs.Tables.{Values, IsWith, all_at, pages_of, values, with_value}
use Rattle.cert_check.specs.ShapeFaults.{AreShapeFaults, IsMisshapen, name_of}
use Rattle.cert_check.specs.declared.verdict.ShapeFault.{ShapeFault}
use Rattle.session_story.specs.Apart.{AreFaultyApart, IsApart}
use Rattle.session_story.specs.Explained.{IsLeastOf}
use Rattle.session_story.specs.Subjects.{page_of}
use Rattle.session_story.specs.inner.Touched.{AreNotApart, AreTouched, Leaves, NoneApart, is_look, looks, page_touched, lesser}
use Rattle.session_story.proofs.Reaching.{within_below}

abbrev named : LogName → ℕ → Name
named log n = (log, n)

-- what holds of each element holds of one
held : {A : Type 0} (P : A → Type 0) (xs : List A) (x : A) → All P xs → Contains xs x → P x
held P xs x all at = subst P at.2 (all at.0 x at.1)

-- a record that touches one page is about it, is no look, and is right at the start
pub by_touched : (s : Recorded) (name : Name) (p : ℕ) → page_touched s name ≡ Some p → (is_look s name ≡ false) × (is_right s Start name ≡ true) × (page_of s name ≡ Some p)
by_touched s name p e = go (is_look s name) (is_right s Start name) refl refl e
  where
    go : (a b : Bool) → is_look s name ≡ a → is_right s Start name ≡ b → cond (a || not b) None (page_of s name) ≡ Some p → (is_look s name ≡ false) × (is_right s Start name ≡ true) × (page_of s name ≡ Some p)
    go true b look start is = absurd (cc)
    go false false look start is = absurd (cc)
    go false true look start is = (look, start, is)

-- and the other way round
touches : (s : Recorded) (name : Name) → is_look s name ≡ false → is_right s Start name ≡ true → page_touched s name ≡ page_of s name
touches s name look start = ap (λ a. cond (a || not (is_right s Start name)) None (page_of s name)) look ∙ ap (λ b. cond (not b) None (page_of s name)) start

pub touched_below : (s : Recorded) → IsSession s → (name : Name) (p : ℕ) → page_touched s name ≡ Some p → p < s.geometry.pages
touched_below s fits name p e = within_below s fits 5 name p (by_touched s name p e).2

-- ---- the marks

pub none_touched : (s : Recorded) (marks : Values Bool) → pages_of marks ≡ s.geometry.pages → values marks ≡ all_at false → AreTouched s [] marks
none_touched s marks all none = record {
  pages_are = all;
  left = λ page free k d lt. absurd (omega (arith, lt));
  touched = λ page is. absurd (let no = ap (λ (f : ℕ → Bool). f page) none in let e : true ≡ false = sym is ∙ no in cc);
}

-- one more record
pub one_touched : (s : Recorded) (faults : List ShapeFault) (f : ShapeFault) (page : ℕ) (old new : Values Bool) → AreTouched s faults old → page_touched s (name_of f) ≡ Some page → IsWith old new (with_value page true (values old)) → AreTouched s (faults ++ f ∷ []) new
one_touched s faults f page old new was at on = record {
  pages_are = on.pages ∙ was.pages_are;
  left = λ other free. free_of other (eqb page other) refl (sym (now other) ∙ free);
  touched = λ other is. touched_by other (eqb page other) refl (sym (now other) ∙ is);
}
  where
    now : (other : ℕ) → values new other ≡ cond (eqb page other) true (values old other)
    now other = ap (λ (g : ℕ → Bool). g other) on.values_are

    free_of : (other : ℕ) (b : Bool) → eqb page other ≡ b → cond b true (values old other) ≡ false → All (Leaves s other) (faults ++ f ∷ [])
    free_of other true same is = absurd (cc)
    free_of other false differs is = All-push (Leaves s other) faults f (was.left other is) (page, at, eqb-false page other differs)

    touched_by : (other : ℕ) (b : Bool) → eqb page other ≡ b → cond b true (values old other) ≡ true → (fault : ShapeFault) × Contains (faults ++ f ∷ []) fault × (page_touched s (name_of fault) ≡ Some other)
    touched_by other true same is = (f, Contains-append_right faults (f ∷ []) f (0, omega arith, refl), at ∙ ap Some (eqb-true page other same))
    touched_by other false differs is = let h = was.touched other is in (h.0, Contains-append_left faults (f ∷ []) h.0 h.1, h.2)

-- ---- which pages are apart

same_Some : {A : Type 0} (x y : A) → Some x ≡ Some y → x ≡ y
same_Some x y e = cc

look_there : (s : Recorded) (name : Name) → is_look s name ≡ true → (n : ℕ) × (placement : ℕ) × (name ≡ named Guest n) × (slice_get s.guest n ≡ Some (See placement))
look_there s (Guest, n) e = go (slice_get s.guest n) refl e
  where
    go : (o : Option GuestRec) → slice_get s.guest n ≡ o → passes looks o ≡ true → (k : ℕ) × (placement : ℕ) × (named Guest n ≡ named Guest k) × (slice_get s.guest k ≡ Some (See placement))
    go (Some (See placement)) is e = (n, placement, refl, is)
    go None is e = absurd (cc)
    go (Some (Read v p c x)) is e = absurd (cc)
    go (Some (Write v p c x)) is e = absurd (cc)
    go (Some (Release v p)) is e = absurd (cc)
    go (Some (Miss v p)) is e = absurd (cc)
    go (Some Halt) is e = absurd (cc)
    go (Some (Resume r)) is e = absurd (cc)
look_there s (Source, n) e = absurd (cc)
look_there s (Link, n) e = absurd (cc)
look_there s (Lane, n) e = absurd (cc)
look_there s (Pager, n) e = absurd (cc)

module _ (s : Recorded) (faults : List ShapeFault) (are : AreShapeFaults s faults) where
  wrong_there : (f : ShapeFault) → Contains faults f → is_right s f.reason (name_of f) ≡ false
  wrong_there f at = (held (IsMisshapen s) faults f are.misshapen at).is_wrong

  -- no page is apart if a record may touch any
  pub none_apart : (f : ShapeFault) → Contains faults f → page_touched s (name_of f) ≡ None → NoneApart s
  none_apart f at none page apart = go (is_look s (name_of f)) refl
    where
      wrong : is_right s f.reason (name_of f) ≡ false
      wrong = wrong_there f at

      other : (p : ℕ) × (page_of s (name_of f) ≡ Some p) × (p ≢ page)
      other = apart.others f.reason (name_of f) wrong

      go : (b : Bool) → is_look s (name_of f) ≡ b → ⊥
      go true look =
          let l = look_there s (name_of f) look in
          let right = apart.looks f.reason l.0 l.1 l.3 in
          let bad = subst (λ (name : Name). is_right s f.reason name ≡ false) l.2 wrong in
          let no : true ≡ false = sym right ∙ bad in
          absurd (cc)
      go false look =
          let no : None ≡ Some other.0 = sym none ∙ touches s (name_of f) look (apart.starts (name_of f)) ∙ other.1 in
          absurd (cc)

  -- a page that a record touches is not apart
  not_apart : (f : ShapeFault) (page : ℕ) → Contains faults f → page_touched s (name_of f) ≡ Some page → IsApart s page → ⊥
  not_apart f page at is apart =
      let other = apart.others f.reason (name_of f) (wrong_there f at) in
      other.2 (same_Some other.0 page (sym other.1 ∙ (by_touched s (name_of f) page is).2))

  module _ (page : ℕ) (leaves : All (Leaves s page) faults) where
    left_by : (reason : ShapeReason) (name : Name) → is_right s reason name ≡ false → (other : ℕ) × (page_touched s name ≡ Some other) × (other ≢ page)
    left_by reason name wrong =
        let f = are.all reason name wrong in
        subst (λ (n : Name). (other : ℕ) × (page_touched s n ≡ Some other) × (other ≢ page)) f.2 (held (Leaves s page) faults f.0 leaves f.1)

    right_start : (name : Name) (b : Bool) → is_right s Start name ≡ b → is_right s Start name ≡ true
    right_start name true is = is
    right_start name false is = let at = left_by Start name is in (by_touched s name at.0 at.1).1

    right_look : (reason : ShapeReason) (n placement : ℕ) → slice_get s.guest n ≡ Some (See placement) → (b : Bool) → is_right s reason (Guest, n) ≡ b → is_right s reason (Guest, n) ≡ true
    right_look reason n placement look true is = is
    right_look reason n placement look false is =
        let at = left_by reason (Guest, n) is in
        let none = (by_touched s (Guest, n) at.0 at.1).0 in
        let some = ap (passes looks) look in
        let no : true ≡ false = sym some ∙ none in
        absurd (cc)

    -- a page that each record leaves is
    is_apart : IsApart s page
    is_apart = record {
      starts = λ name. right_start name (is_right s Start name) refl;
      looks = λ reason n placement look. right_look reason n placement look (is_right s reason (Guest, n)) refl;
      others = λ reason name wrong. let at = left_by reason name wrong in (at.0, (by_touched s name at.0 at.1).2, at.2);
    }

  pub apart_by : (marks : Values Bool) → AreTouched s faults marks → AreNotApart s marks
  apart_by marks touched = record {
    pages_are = touched.pages_are;
    apart = λ page free. is_apart page (touched.left page free);
    not_apart = λ page is apart. let at = touched.touched page is in not_apart at.0 page at.1 at.2 apart;
  }

-- ---- the faulty ones

-- what holds of those that are kept and of those that are not holds of all
all_by_kept : {A : Type 0} (p : A → Bool) (P : A → Type 0) (xs : List A) → ((x : A) → p x ≡ false → P x) → All P (filter p xs) → All P xs
all_by_kept p P [] other kept = λ k d lt. absurd (omega (arith, lt))
all_by_kept p P (x ∷ xs) other kept = go (all_by_kept p P xs other) (p x) refl kept
  where
    go : (All P (filter p xs) → All P xs) → (b : Bool) → p x ≡ b → All P (cond b (x ∷ filter p xs) (filter p xs)) → All P (x ∷ xs)
    go rec true is k = All-cons P x xs (All-head P x (filter p xs) k) (rec (All-tail P x (filter p xs) k))
    go rec false is k = All-cons P x xs (other x is) (rec k)

unmarked_by : (b : Bool) → not b ≡ true → b ≡ false
unmarked_by false e = refl
unmarked_by true e = absurd (cc)

marked_by : (b : Bool) → not b ≡ false → b ≡ true
marked_by true e = refl
marked_by false e = absurd (cc)

pub apart_kept : (s : Recorded) (marks : Values Bool) (faulty : List FaultyPage) → AreNotApart s marks → AreFaultyPages s faulty → AreFaultyApart s (filter (λ f. not (values marks f.fault.page)) faulty)
apart_kept s marks faulty by was = record {
  ascending = AllPairs-filter (λ (a b : FaultyPage). a.fault.page < b.fault.page) keeps faulty was.ascending;
  within = All-filter keeps (λ (f : FaultyPage). f.fault.page < s.geometry.pages) faulty was.within;
  apart = λ k d lt. by.apart _ (unmarked_by _ (filter_passes keeps faulty k d lt));
  faulty = All-filter keeps (IsFaultyPage s) faulty was.faulty;
  others = λ page below apart none. was.others page below (all_by_kept keeps (λ (f : FaultyPage). f.fault.page ≢ page) faulty (λ f cut same. by.not_apart f.fault.page (marked_by _ cut) (subst (IsApart s) (sym same) apart)) none);
}
  where
    keeps : FaultyPage → Bool
    keeps f = not (values marks f.fault.page)

pub none_faulty : (s : Recorded) → NoneApart s → AreFaultyApart s []
none_faulty s none = record {
  ascending = λ i j d lt under. absurd (omega (arith, under));
  within = λ k d lt. absurd (omega (arith, lt));
  apart = λ k d lt. absurd (omega (arith, lt));
  faulty = λ k d lt. absurd (omega (arith, lt));
  others = λ page below apart left. absurd (none page apart);
}

-- ---- the one whose fault has the least line

-- one more page
pub least_more : (xs : List FaultyPage) (least : Option FaultyPage) (page : FaultyPage) → MatchOption least (xs ≡ []) (IsLeastOf xs) → IsLeastOf (xs ++ page ∷ []) (lesser least page)
least_more xs None page none = subst (λ (ys : List FaultyPage). IsLeastOf (ys ++ page ∷ []) page) (sym none) (record { is_among = (0, omega arith, refl); is_least = All-push (λ (other : FaultyPage). page.line ≤ other.line) [] page (λ k d lt. absurd (omega (arith, lt))) (omega arith) })
least_more xs (Some one) page was = go (leb one.line page.line) refl
  where
    go : (b : Bool) → leb one.line page.line ≡ b → IsLeastOf (xs ++ page ∷ []) (cond b one page)
    go true le = record { is_among = Contains-append_left xs (page ∷ []) one was.is_among; is_least = All-push (λ (other : FaultyPage). one.line ≤ other.line) xs page was.is_least (leb-true one.line page.line le) }
    go false gt = record {
      is_among = Contains-append_right xs (page ∷ []) page (0, omega arith, refl);
      is_least = All-push (λ (other : FaultyPage). page.line ≤ other.line) xs page (λ k d lt. let one_le = was.is_least k d lt in let past = leb-false one.line page.line gt in omega (arith, one_le, past)) (omega arith);
    }

pub least_faulty : (s : Recorded) (found : List FaultyPage) (f : FaultyPage) → AreFaultyApart s found → IsLeastOf found f → IsFaultyPage s f
least_faulty s found f are least = held (IsFaultyPage s) found f are.faulty least.is_among

pub some_least : (found : List FaultyPage) (f : FaultyPage) → IsLeastOf found f → 0 < length found
some_least found f least = let lt = least.is_among.1 in omega (arith, lt)
