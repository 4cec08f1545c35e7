-- The first touch of a page at the target, and what is early or over by it.
use Rattle.std.proofs.Common.{◌≡◌, ℕ, zero, suc, ◌<◌, ◌≤◌, ◌⊎◌, inl, inr, Bool, true, false, cond, not, ◌&&◌, ◌||◌, length, Option, Some, None, refl, sym, ap, ◌∙◌, arith}
use Rattle.std.specs.Prelude.{slice_get, ◌==◌, nat_lt, is_some}
use Rattle.std.proofs.lemmas.Bool.{cases_lt, and_parts, and_from, ltb-true, lt-ltb, le-ltb}
use Rattle.std.proofs.lemmas.Option.{slice_get_within}
use Rattle.migration_types.specs.declared.records.GuestRec.{GuestRec}
use Rattle.migration_types.specs.declared.records.GuestRec.TheVariants.{Read, Write, Release, Miss, Halt, Resume, See}
use Rattle.migration_types.specs.Sessions.{Recorded}
use Rattle.audit_model.specs.declared.home.Home.{Home}
use Rattle.audit_model.specs.declared.home.Home.TheVariants.{AtSource, Nowhere, AtTarget}
use Rattle.audit_model.specs.Flat.{changed, home, is_target, marked_late, freed_after, freed}
use Rattle.audit_model.specs.Shape.{passes, is_release}
use Rattle.audit_model.specs.Certificates.{is_access_of, is_touch_of}
use Rattle.audit_model.specs.Faults.{looks_at, has_looked, IsOver}
use Rattle.page_facts.specs.Tables.{some_before, first_before}
use Rattle.page_facts.specs.Judged.{is_late_touch, releases_at}
use Rattle.page_facts.specs.Looks.{first_look}
use Rattle.page_facts.specs.Findings.{IsFindings}
use Rattle.page_facts.specs.declared.findings.Findings.{Findings}
use Rattle.page_facts.specs.inner.Frontier.{is_before}
use Rattle.page_facts.specs.inner.OfFindings.{uncovered_of, early_of, over_at, over_of}
use Rattle.page_facts.proofs.Before.{some_true, some_false, first_none, first_some, IsFirstAt}
use Rattle.page_facts.proofs.Listing.{first_is, none_is_first, some_is_first}
use Rattle.page_facts.proofs.Looking.{earlier_some}
use Rattle.page_facts.proofs.RightEntry.{first_late, late_first, release_of, touch_of}

-- ---- what a guest released at the target

abbrev is_release_of : ℕ → GuestRec → Bool
is_release_of page (Release vcpu p) = p == page
is_release_of page _ = false

abbrev frees : Recorded → ℕ → ℕ → GuestRec → Bool
frees s page n r = is_release_of page r && is_target (home s n)

freed_some : (s : Recorded) (page n : ℕ) → freed s n page ≡ some_before (frees s page) s.guest n
freed_some s page zero = refl
freed_some s page (suc n) = go (slice_get s.guest n) ∙ ap (λ b. passes (frees s page n) (slice_get s.guest n) || b) (freed_some s page n)
  where
    by : (h : Home) (here old : Bool) → marked_late h here old ≡ ((here && is_target h) || old)
    by AtTarget true old = refl
    by AtTarget false old = refl
    by AtSource true old = refl
    by AtSource false old = refl
    by Nowhere true old = refl
    by Nowhere false old = refl

    at : (r : GuestRec) → freed_after (home s n) page r (freed s n page) ≡ (frees s page n r || freed s n page)
    at (Release v p) = by (home s n) (p == page) (freed s n page)
    at (Read v p c x) = refl
    at (Write v p c x) = refl
    at (Miss v p) = refl
    at Halt = refl
    at (Resume i) = refl
    at (See k) = refl

    go : (o : Option GuestRec) → changed (freed_after (home s n) page) o (freed s n page) ≡ (passes (frees s page n) o || freed s n page)
    go None = refl
    go (Some r) = at r

-- ---- an access or a release

access_touches : (page : ℕ) (r : GuestRec) → is_access_of page r ≡ true → is_touch_of page r ≡ true
access_touches page (Read v p c x) t = t
access_touches page (Write v p c x) t = t
access_touches page (Release v p) t = absurd (cc)
access_touches page (Miss v p) t = absurd (cc)
access_touches page Halt t = absurd (cc)
access_touches page (Resume i) t = absurd (cc)
access_touches page (See k) t = absurd (cc)

release_touches : (page : ℕ) (r : GuestRec) → is_release_of page r ≡ true → is_touch_of page r ≡ true
release_touches page (Release v p) t = t
release_touches page (Read v p c x) t = absurd (cc)
release_touches page (Write v p c x) t = absurd (cc)
release_touches page (Miss v p) t = absurd (cc)
release_touches page Halt t = absurd (cc)
release_touches page (Resume i) t = absurd (cc)
release_touches page (See k) t = absurd (cc)

-- a touch is a release or an access
releases_page : (page : ℕ) (r : GuestRec) → is_touch_of page r ≡ true → is_release r ≡ true → is_release_of page r ≡ true
releases_page page (Release v p) t e = t
releases_page page (Read v p c x) t e = absurd (cc)
releases_page page (Write v p c x) t e = absurd (cc)
releases_page page (Miss v p) t e = absurd (cc)
releases_page page Halt t e = absurd (cc)
releases_page page (Resume i) t e = absurd (cc)
releases_page page (See k) t e = absurd (cc)

accesses_page : (page : ℕ) (r : GuestRec) → is_touch_of page r ≡ true → is_release r ≡ false → is_access_of page r ≡ true
accesses_page page (Read v p c x) t e = t
accesses_page page (Write v p c x) t e = t
accesses_page page (Release v p) t e = absurd (cc)
accesses_page page (Miss v p) t e = absurd (cc)
accesses_page page Halt t e = absurd (cc)
accesses_page page (Resume i) t e = absurd (cc)
accesses_page page (See k) t e = absurd (cc)

no_access : (page : ℕ) (r : GuestRec) → is_release r ≡ true → is_access_of page r ≡ false
no_access page (Release v p) e = refl
no_access page (Read v p c x) e = absurd (cc)
no_access page (Write v p c x) e = absurd (cc)
no_access page (Miss v p) e = absurd (cc)
no_access page Halt e = absurd (cc)
no_access page (Resume i) e = absurd (cc)
no_access page (See k) e = absurd (cc)

module _ (s : Recorded) (page : ℕ) where
  -- an access to the page at the target, where it was not released before, that no look before it covers
  abbrev pub comes_early : ℕ → GuestRec → Bool
  comes_early n r = (is_access_of page r && is_target (home s n)) && (not (freed s n page) && not (has_looked s page n))

  pub record EarlyParts (n : ℕ) (r : GuestRec) : Type 0 where
    pub access : is_access_of page r ≡ true
    pub late : is_target (home s n) ≡ true
    pub kept : freed s n page ≡ false
    pub unseen : has_looked s page n ≡ false

  is_not : (b : Bool) → not b ≡ true → b ≡ false
  is_not false e = refl
  is_not true e = absurd (cc)

  pub early_parts : (n : ℕ) (r : GuestRec) → comes_early n r ≡ true → EarlyParts n r
  early_parts n r t =
      let p = and_parts (is_access_of page r && is_target (home s n)) (not (freed s n page) && not (has_looked s page n)) t in
      let q = and_parts (is_access_of page r) (is_target (home s n)) p.0 in
      let u = and_parts (not (freed s n page)) (not (has_looked s page n)) p.1 in
      record { access = q.0; late = q.1; kept = is_not (freed s n page) u.0; unseen = is_not (has_looked s page n) u.1 }

  pub early_from : (n : ℕ) (r : GuestRec) → EarlyParts n r → comes_early n r ≡ true
  early_from n r e =
      and_from (is_access_of page r && is_target (home s n)) (not (freed s n page) && not (has_looked s page n))
      (and_from (is_access_of page r) (is_target (home s n)) e.access e.late)
      (and_from (not (freed s n page)) (not (has_looked s page n)) (ap (λ b. not b) e.kept) (ap (λ b. not b) e.unseen))

  late_is : (n : ℕ) (r : GuestRec) → EarlyParts n r → is_late_touch s page n r ≡ true
  late_is n r e = and_from (is_touch_of page r) (is_target (home s n)) (access_touches page r e.access) e.late

  -- a look before a record is the first look before it
  looked_is : (look : Option ℕ) → look ≡ first_look s (length s.guest) page → (n : ℕ) → n ≤ length s.guest → has_looked s page n ≡ is_before look n
  looked_is look e n within = earlier_some (looks_at s page) s.guest n ∙ some_is_first (λ m. looks_at s page) s.guest n ∙ go (first_before (λ m. looks_at s page) s.guest n) refl look (sym e)
    where
      go : (o : Option ℕ) → first_before (λ m. looks_at s page) s.guest n ≡ o → (l : Option ℕ) → first_look s (length s.guest) page ≡ l → is_some o ≡ is_before l n
      go None f None g = refl
      go None f (Some k) g = by (cases_lt k n)
        where
          by : (k < n) ⊎ (n ≤ k) → false ≡ nat_lt k n
          by (inr le) = sym (le-ltb k n le)
          by (inl lt) = let h = first_some (λ m. looks_at s page) s.guest (length s.guest) k g in let no_one = first_none (λ m. looks_at s page) s.guest n f k h.by h.stands lt in let yes_one = h.passes_test in absurd (cc)
      go (Some j) f None g = let h = first_some (λ m. looks_at s page) s.guest n j f in let no_one = first_none (λ m. looks_at s page) s.guest (length s.guest) g j h.by h.stands (slice_get_within s.guest j h.by h.stands) in let yes_one = h.passes_test in absurd (cc)
      go (Some j) f (Some k) g = sym (lt-ltb k n (by (cases_lt j k)))
        where
          one : IsFirstAt (λ m. looks_at s page) s.guest n j
          one = first_some (λ m. looks_at s page) s.guest n j f

          by : (j < k) ⊎ (k ≤ j) → k < n
          by (inr le) = let b = one.below in omega (arith, le, b)
          by (inl lt) = let h = first_some (λ m. looks_at s page) s.guest (length s.guest) k g in let no_one = h.is_first j one.by one.stands lt in let yes_one = one.passes_test in absurd (cc)

  -- ---- by what is found of the page

  module _ (f : Findings) (are : IsFindings s page f) where
    seen_is : (n : ℕ) → n ≤ length s.guest → has_looked s page n ≡ is_before f.look n
    seen_is n le = looked_is f.look are.look n le

    abbrev IsNone : Type 0
    IsNone = first_before comes_early s.guest (length s.guest) ≡ None

    none_from : ((n : ℕ) (r : GuestRec) → slice_get s.guest n ≡ Some r → EarlyParts n r → ⊥) → IsNone
    none_from never = none_is_first comes_early s.guest (length s.guest) (λ n r is lt. go n r is (comes_early n r) refl)
      where
        go : (n : ℕ) (r : GuestRec) → slice_get s.guest n ≡ Some r → (b : Bool) → comes_early n r ≡ b → b ≡ false
        go n r is false e = refl
        go n r is true e = absurd (never n r is (early_parts n r e))

    untouched : f.touch ≡ None → IsNone
    untouched e = none_from (λ n r is p. let no_one = first_none (is_late_touch s page) s.guest (length s.guest) (sym are.touch ∙ e) n r is (slice_get_within s.guest n r is) in let yes_one = late_is n r p in absurd (cc))

    module _ (a : ℕ) (touched : f.touch ≡ Some a) where
      at : IsFirstAt (is_late_touch s page) s.guest (length s.guest) a
      at = first_some (is_late_touch s page) s.guest (length s.guest) a (sym are.touch ∙ touched)

      parts : (is_touch_of page at.by ≡ true) × (is_target (home s a) ≡ true)
      parts = and_parts (is_touch_of page at.by) (is_target (home s a)) at.passes_test

      kind : f.releases ≡ is_release at.by
      kind = are.releases ∙ ap (λ o. releases_at s o) touched ∙ ap (λ o. passes is_release o) at.stands

      not_before : (n : ℕ) (r : GuestRec) → slice_get s.guest n ≡ Some r → EarlyParts n r → (n < a) ⊎ (a ≤ n) → a ≤ n
      not_before n r is p (inr le) = le
      not_before n r is p (inl lt) = let no_one = at.is_first n r is lt in let yes_one = late_is n r p in absurd (cc)

      -- the page is freed behind a first touch that releases it
      freed_later : is_release at.by ≡ true → (n : ℕ) → a < n → freed s n page ≡ true
      freed_later e n lt = go (some_before (frees s page) s.guest n) refl
        where
          yes : frees s page a at.by ≡ true
          yes = and_from (is_release_of page at.by) (is_target (home s a)) (releases_page page at.by parts.0 e) parts.1

          go : (b : Bool) → some_before (frees s page) s.guest n ≡ b → freed s n page ≡ true
          go true t = freed_some s page n ∙ t
          go false t = let no_one = some_false (frees s page) s.guest n t a at.by at.stands lt in let yes_one = yes in absurd (cc)

      -- and not before a first touch
      kept_before : freed s a page ≡ false
      kept_before = go (some_before (frees s page) s.guest a) refl
        where
          go : (b : Bool) → some_before (frees s page) s.guest a ≡ b → freed s a page ≡ false
          go false t = freed_some s page a ∙ t
          go true t =
              let w = some_true (frees s page) s.guest a t in
              let p = and_parts (is_release_of page w.1) (is_target (home s w.0)) w.3 in
              let yes = and_from (is_touch_of page w.1) (is_target (home s w.0)) (release_touches page w.1 p.0) p.1 in
              let no_one = at.is_first w.0 w.1 w.2 w.4 in
              absurd (cc)

      by_release : is_release at.by ≡ true → IsNone
      by_release e = none_from (λ n r is p. go n r is p (cases_lt a n))
        where
          go : (n : ℕ) (r : GuestRec) → slice_get s.guest n ≡ Some r → EarlyParts n r → (a < n) ⊎ (n ≤ a) → ⊥
          go n r is p (inl lt) = let yes = freed_later e n lt in let no_one = p.kept in absurd (cc)
          go n r is p (inr ge) =
              let le = not_before n r is p (cases_lt n a) in
              let same : n ≡ a = omega (arith, le, ge) in
              let one : Some r ≡ Some at.by = sym is ∙ ap (λ k. slice_get s.guest k) same ∙ at.stands in
              let own : r ≡ at.by = cc in
              let no_one : is_access_of page r ≡ false = ap (λ x. is_access_of page x) own ∙ no_access page at.by e in
              let yes = p.access in
              absurd (cc)

      still_seen : (o : Option ℕ) (n : ℕ) → a ≤ n → is_before o a ≡ true → is_before o n ≡ true
      still_seen None n le t = absurd (cc)
      still_seen (Some k) n le t = let lt = ltb-true k a t in lt-ltb k n (omega arith)

      by_access : is_release at.by ≡ false → (b : Bool) → is_before f.look a ≡ b → first_before comes_early s.guest (length s.guest) ≡ cond b None (Some a)
      by_access e true t = none_from (λ n r is p.
          let within = slice_get_within s.guest n r is in
          let yes = seen_is n (omega arith) ∙ still_seen f.look n (not_before n r is p (cases_lt n a)) t in
          let no_one = p.unseen in
          absurd (cc))
      by_access e false t = first_is comes_early s.guest (length s.guest) a (record {
        by = at.by;
        stands = at.stands;
        passes_test = early_from a at.by (record { access = accesses_page page at.by parts.0 e; late = parts.1; kept = kept_before; unseen = let below = at.below in seen_is a (omega arith) ∙ t });
        below = at.below;
        is_first = λ n r is lt. go n r is lt (comes_early n r) refl;
      })
        where
          go : (n : ℕ) (r : GuestRec) → slice_get s.guest n ≡ Some r → n < a → (b : Bool) → comes_early n r ≡ b → b ≡ false
          go n r is lt false t = refl
          go n r is lt true t = let le = not_before n r is (early_parts n r t) (cases_lt n a) in absurd (omega (arith, le, lt))

    -- the first early access is the first touch, where it is no release and no look before it covers the page
    pub early_is : first_before comes_early s.guest (length s.guest) ≡ early_of f
    early_is = go f.touch refl f.releases refl
      where
        go : (o : Option ℕ) → f.touch ≡ o → (b : Bool) → f.releases ≡ b → first_before comes_early s.guest (length s.guest) ≡ cond b None (uncovered_of o f.look)
        go None e true k = untouched e
        go None e false k = untouched e
        go (Some a) e true k = by_release a e (sym (kind a e) ∙ k)
        go (Some a) e false k = by_access a e (sym (kind a e) ∙ k) (is_before f.look a) refl

    -- ---- over

    -- whether the first touch is a release that no look before it covers
    abbrev pub over : Bool
    over = f.releases && is_some (uncovered_of f.touch f.look)

    pub over_is : over_of f ≡ cond over f.placement None
    over_is = go f.releases (uncovered_of f.touch f.look)
      where
        go : (b : Bool) (o : Option ℕ) → cond b (over_at o f.placement) None ≡ cond (b && is_some o) f.placement None
        go false o = refl
        go true None = refl
        go true (Some k) = refl

    pub is_over : over ≡ true → IsOver s page
    is_over e = go f.touch refl
      where
        both : (f.releases ≡ true) × (is_some (uncovered_of f.touch f.look) ≡ true)
        both = and_parts f.releases (is_some (uncovered_of f.touch f.look)) e

        covered : (a : ℕ) (b : Bool) → is_before f.look a ≡ b → is_some (cond b None (Some a)) ≡ true → b ≡ false
        covered a false t h = refl
        covered a true t h = absurd (cc)

        go : (o : Option ℕ) → f.touch ≡ o → IsOver s page
        go None t = let no_one : is_some (uncovered_of f.touch f.look) ≡ false = ap (λ x. is_some (uncovered_of x f.look)) t in let yes = both.1 in absurd (cc)
        go (Some a) t =
            let late = first_late s page a (sym are.touch ∙ t) in
            let by = release_of s page a late.0 (sym (are.releases ∙ ap (λ x. releases_at s x) t) ∙ both.0) in
            let within = slice_get_within s.guest a late.0.by late.0.stands in
            record {
              release = a;
              vcpu = by.0;
              stands = by.1;
              is_late = late.0.is_late;
              is_first = late.1;
              is_uncovered = seen_is a (omega arith) ∙ covered a (is_before f.look a) refl (sym (ap (λ x. is_some (uncovered_of x f.look)) t) ∙ both.1);
            }

    pub over_from : IsOver s page → over ≡ true
    over_from o = and_from f.releases (is_some (uncovered_of f.touch f.look))
        (are.releases ∙ ap (λ x. releases_at s x) t ∙ ap (λ x. passes is_release x) o.stands)
        (ap (λ x. is_some (uncovered_of x f.look)) t ∙ ap (λ b. is_some (cond b None (Some o.release))) (sym (seen_is o.release (omega (arith, within))) ∙ o.is_uncovered))
      where
        within : o.release < length s.guest
        within = slice_get_within s.guest o.release (Release o.vcpu page) o.stands

        t : f.touch ≡ Some o.release
        t = are.touch ∙ late_first s page o.release (touch_of s page o.vcpu o.release o.stands o.is_late) o.is_first
