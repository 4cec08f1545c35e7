-- The made entry is right where any entry is.
use Rattle.std.proofs.Common.{◌≡◌, ℕ, ◌<◌, ◌≤◌, ◌⊎◌, inl, inr, Bool, true, false, not, ◌&&◌, length, Option, Some, None, refl, sym, ap, ◌∙◌, subst, arith, eq-eqb}
use Rattle.std.specs.Prelude.{slice_get, ◌==◌, nat_lt}
use Rattle.std.proofs.lemmas.Bool.{cases_lt, and_parts, and_from, or_left, ltb-true, lt-ltb}
use Rattle.std.proofs.lemmas.Option.{slice_get_within}
use Rattle.migration_types.specs.declared.records.GuestRec.TheVariants.{See}
use Rattle.migration_types.specs.declared.records.PagerRec.{PagerRec}
use Rattle.migration_types.specs.declared.records.PagerRec.TheVariants.{Zero}
use Rattle.migration_types.specs.declared.cert.First.{First}
use Rattle.migration_types.specs.declared.cert.Entry.{Entry}
use Rattle.migration_types.specs.declared.cert.Entry.TheVariants.{Nothing, Fresh, Source, Balloon}
use Rattle.migration_types.specs.Sessions.{Recorded}
use Rattle.audit_model.specs.Names.{if_there}
use Rattle.audit_model.specs.Shape.{passes, is_placement_of}
use Rattle.audit_model.specs.Faults.{looks_at}
use Rattle.audit_model.specs.Certificates.{IsRightEntry}
use Rattle.page_facts.specs.declared.facts.PageFacts.{PageFacts}
use Rattle.page_facts.specs.Tables.{first_before}
use Rattle.page_facts.specs.Facts.{IsFacts}
use Rattle.page_facts.specs.inner.EntryTests.{is_place, is_absent, sees_from, sees_by, zeroes, covers, is_once, is_right_of}
use Rattle.page_facts.proofs.Before.{first_none, first_some}
use Rattle.page_facts.proofs.RightEntry.{place_some, absent_none, zero_at, sees_at, seen_by, right_from, right_test}
use Rattle.page_facts.proofs.Sighting.{reach_looks}
use Rattle.page_facts.proofs.Origins.{no_origin}
use Rattle.page_facts.specs.Looks.{first_look}
use Rattle.page_facts.specs.Moved.{origin_at}
use Rattle.cert_maker.specs.Made.{IsEarliest, NamesEarliest}
use Rattle.cert_maker.specs.inner.Entries.{touch_and_look, first_of, zeroed_at, entry_at, unplaced_entry, entry_with, entry_of}

-- looks and the page's first placement
module _ (s : Recorded) (page place : ℕ) (first : first_before (λ m. is_placement_of page) s.pager (length s.pager) ≡ Some place) where
  -- the page's first look is the earliest that covers its first placement
  pub earliest : (look touch : Option ℕ) (first : Option First) → look ≡ first_look s (length s.guest) page → first_of touch look ≡ Some first → IsEarliest s place first
  earliest look touch None e is = tt
  earliest look None (Some f) e is = absurd (cc)
  earliest None (Some a) (Some f) e is = absurd (cc)
  earliest (Some see) (Some a) (Some f) e is = λ n k stands le. at_least n k stands le (cases_lt n f.see)
    where
      same : touch_and_look a see ≡ f
      same = let h : Some (Some (touch_and_look a see)) ≡ Some (Some f) = is in let i : Some (touch_and_look a see) ≡ Some f = cc in cc

      sees : see ≡ f.see
      sees = ap (λ (x : First). x.see) same

      at_least : (n k : ℕ) → slice_get s.guest n ≡ Some (See k) → place ≤ k → (n < f.see) ⊎ (f.see ≤ n) → f.see ≤ n
      at_least n k stands le (inr more) = more
      at_least n k stands le (inl less) =
          let f = first_some (λ m. looks_at s page) s.guest (length s.guest) see (sym e) in
          let no_look = f.is_first n (See k) stands (omega (arith, sees)) in
          let look = reach_looks s page place first k le in
          absurd (cc)

  -- a first touch that is covered is covered by the first look
  pub covered_first : (look touch : Option ℕ) (first : Option First) → look ≡ first_look s (length s.guest) page → covers s look touch place first ≡ true → (made : Option First) × (first_of touch look ≡ Some made) × (covers s look touch place made ≡ true)
  covered_first look None None e t = (None, refl, refl)
  covered_first look None (Some f) e t = absurd (cc)
  covered_first look (Some a) None e t = absurd (cc)
  covered_first look (Some a) (Some f) e t = go look e (seen_by s page place look f.see first e parts.1)
    where
      parts : (((a == f.access) && nat_lt f.see a) ≡ true) × (sees_by s look place f.see ≡ true)
      parts = and_parts ((a == f.access) && nat_lt f.see a) (sees_by s look place f.see) t

      early : f.see < a
      early = ltb-true f.see a (and_parts (a == f.access) (nat_lt f.see a) parts.0).1

      go : (look : Option ℕ) → look ≡ first_look s (length s.guest) page → passes (sees_from place) (slice_get s.guest f.see) ≡ true → (made : Option First) × (first_of (Some a) look ≡ Some made) × (covers s look (Some a) place made ≡ true)
      go None e seen =
          let sees = sees_at s f.see place seen in
          let no_look = first_none (λ m. looks_at s page) s.guest (length s.guest) (sym e) f.see (See sees.0) sees.1 (slice_get_within s.guest f.see (See sees.0) sees.1) in
          let look = reach_looks s page place first sees.0 sees.2 in
          absurd (cc)
      go (Some n) e seen = (
        Some (touch_and_look a n),
        refl,
        and_from ((a == a) && nat_lt n a) (sees_by s (Some n) place n) (and_from (a == a) (nat_lt n a) (eq-eqb a a refl) (lt-ltb n a before)) (or_left (n == n) (passes (sees_from place) (slice_get s.guest n)) (eq-eqb n n refl)),
      )
        where
          sees : (k : ℕ) × (slice_get s.guest f.see ≡ Some (See k)) × (place ≤ k)
          sees = sees_at s f.see place seen

          least : (n < f.see) ⊎ (f.see ≤ n) → n ≤ f.see
          least (inl lt) = omega arith
          least (inr ge) = at_most (cases_lt f.see n)
            where
              at_most : (f.see < n) ⊎ (n ≤ f.see) → n ≤ f.see
              at_most (inr le) = le
              at_most (inl lt) =
                  let w = first_some (λ m. looks_at s page) s.guest (length s.guest) n (sym e) in
                  let no_look = w.is_first f.see (See sees.0) sees.1 lt in
                  let look = reach_looks s page place first sees.0 sees.2 in
                  absurd (cc)

          before : n < a
          before = let l = least (cases_lt n f.see) in omega (arith, early, l)

module _ (s : Recorded) (page : ℕ) (f : PageFacts) (facts : IsFacts s page f) where
  once_placed : (place : ℕ) → is_once f place ≡ true → f.placement ≡ Some place
  once_placed place t = place_some f.placement place (and_parts (is_place f.placement place) (not f.again) (and_parts (is_place f.placement place && not f.again) (not f.altered) t).0).0

  made_of : (place : ℕ) (first : Option First) (sent : Option ℕ) (entry : Entry) → f.placement ≡ Some place → first_of f.touch f.look ≡ Some first → f.sent ≡ sent → entry_at s sent place first ≡ Some entry → entry_of s f ≡ Some entry
  made_of place first sent entry p a is e =
      ap (λ o. entry_with s f o) p
      ∙ ap (λ o. if_there (entry_at s f.sent place) o) a
      ∙ ap (λ o. entry_at s o place first) is
      ∙ e

  unplaced_of : (entry : Entry) → f.placement ≡ None → unplaced_entry f.touch f.releases ≡ entry → entry_of s f ≡ Some entry
  unplaced_of entry p e = ap (λ o. entry_with s f o) p ∙ ap Some e

  -- where an entry passes, the made entry does
  made_passes : (entry : Entry) → is_right_of s page f entry ≡ true → (made : Entry) × (entry_of s f ≡ Some made) × (is_right_of s page f made ≡ true)
  made_passes Nothing t =
      let p = and_parts (is_absent f.placement) (is_absent f.touch) t in
      (Nothing, unplaced_of Nothing (absent_none f.placement p.0) (ap (λ o. unplaced_entry o f.releases) (absent_none f.touch p.1)), t)
  made_passes (Fresh first) t =
      let a = and_parts (is_absent f.placement && is_place f.touch first) f.releases t in
      let b = and_parts (is_absent f.placement) (is_place f.touch first) a.0 in
      let touched : f.touch ≡ Some first = place_some f.touch first b.1 in
      (Fresh first, unplaced_of (Fresh first) (absent_none f.placement b.0) (ap (λ o. unplaced_entry o f.releases) touched ∙ ap (unplaced_entry (Some first)) a.1), t)
  made_passes (Source send place first) t =
      let a = and_parts (is_place f.sent send && is_once f place) (covers s f.look f.touch place first) t in
      let b = and_parts (is_place f.sent send) (is_once f place) a.0 in
      let placed = once_placed place b.1 in
      let c = covered_first s page place (sym facts.placement ∙ placed) f.look f.touch first facts.look a.1 in (
        Source send place c.0,
        made_of place c.0 (Some send) (Source send place c.0) placed c.1 (place_some f.sent send b.0) refl,
        and_from (is_place f.sent send && is_once f place) (covers s f.look f.touch place c.0) a.0 c.2,
      )
  made_passes (Balloon place first) t =
      let a = and_parts (passes (zeroes page) (slice_get s.pager place) && is_once f place) (covers s f.look f.touch place first) t in
      let b = and_parts (passes (zeroes page) (slice_get s.pager place)) (is_once f place) a.0 in
      let placed = once_placed place b.1 in
      let zero = zero_at s page place b.0 in
      let c = covered_first s page place (sym facts.placement ∙ placed) f.look f.touch first facts.look a.1 in (
        Balloon place c.0,
        made_of place c.0 None (Balloon place c.0) placed c.1 (facts.sent ∙ ap (λ o. origin_at s page o) placed ∙ no_origin s page place zero) (ap (λ o. if_there (zeroed_at place c.0) o) zero),
        and_from (passes (zeroes page) (slice_get s.pager place) && is_once f place) (covers s f.look f.touch place c.0) a.0 c.2,
      )

  -- so it is right where any entry is
  pub made_right : (entry : Entry) → IsRightEntry s page entry → (made : Entry) × (entry_of s f ≡ Some made) × IsRightEntry s page made
  made_right entry right =
      let t = right_test s page f facts entry right in
      let a = and_parts (not f.wrong_read && not f.wrong_send) (is_right_of s page f entry) t in
      let m = made_passes entry a.1 in
      (m.0, m.1, right_from s page f facts m.0 (and_from (not f.wrong_read && not f.wrong_send) (is_right_of s page f m.0) a.0 m.2))

  -- and names the earliest look
  pub made_earliest : (entry : Entry) → entry_of s f ≡ Some entry → NamesEarliest s entry
  made_earliest entry e = placed f.placement refl e
    where
      unplaced : (touch : Option ℕ) (releases : Bool) → NamesEarliest s (unplaced_entry touch releases)
      unplaced None releases = tt
      unplaced (Some first) true = tt
      unplaced (Some first) false = tt

      by_record : (place : ℕ) (first : Option First) → IsEarliest s place first → (r : PagerRec) → zeroed_at place first r ≡ Some entry → NamesEarliest s entry
      by_record place first is (Zero p) e = let same : Balloon place first ≡ entry = cc in subst (λ (x : Entry). NamesEarliest s x) same is
      by_record place first is _ e = absurd (cc)

      there : (place : ℕ) (first : Option First) → IsEarliest s place first → (o : Option PagerRec) → if_there (zeroed_at place first) o ≡ Some entry → NamesEarliest s entry
      there place first is None e = absurd (cc)
      there place first is (Some r) e = by_record place first is r e

      sent : (place : ℕ) (first : Option First) → IsEarliest s place first → (o : Option ℕ) → entry_at s o place first ≡ Some entry → NamesEarliest s entry
      sent place first is None e = there place first is (slice_get s.pager place) e
      sent place first is (Some send) e = let same : Source send place first ≡ entry = cc in subst (λ (x : Entry). NamesEarliest s x) same is

      covered : (place : ℕ) → f.placement ≡ Some place → (o : Option (Option First)) → first_of f.touch f.look ≡ o → if_there (entry_at s f.sent place) o ≡ Some entry → NamesEarliest s entry
      covered place p None a e = absurd (cc)
      covered place p (Some first) a e = sent place first (earliest s page place (sym facts.placement ∙ p) f.look f.touch first facts.look a) f.sent e

      placed : (o : Option ℕ) → f.placement ≡ o → entry_with s f o ≡ Some entry → NamesEarliest s entry
      placed None p e = let same : unplaced_entry f.touch f.releases ≡ entry = cc in subst (λ (x : Entry). NamesEarliest s x) same (unplaced f.touch f.releases)
      placed (Some place) p e = covered place p (first_of f.touch f.look) refl e
