-- A session with no fault of a page has a right entry for each page, and so a right certificate.
use Rattle.std.proofs.Common.{◌≡◌, ℕ, zero, suc, ◌+◌, ◌<◌, ◌⊎◌, inl, inr, Bool, true, false, ◌&&◌, List, [], ◌∷◌, length, map, Option, Some, None, refl, sym, ap, ◌∙◌, subst, arith, eqb-true}
use Rattle.std.specs.Prelude.{slice_get, nat_lt}
use Rattle.std.specs.List.{range_with_len}
use Rattle.std.proofs.lemmas.Bool.{and_parts}
use Rattle.std.proofs.lemmas.Option.{slice_get_within}
use Rattle.migration_types.specs.declared.records.LogName.TheVariants.{Pager}
use Rattle.migration_types.specs.declared.records.SourceRec.{SourceRec}
use Rattle.migration_types.specs.declared.records.SourceRec.TheVariants.{Halted, State, Send, Again, Ask, Done, Back}
use Rattle.migration_types.specs.declared.records.PagerRec.{PagerRec}
use Rattle.migration_types.specs.declared.records.PagerRec.TheVariants.{Got, Pull, Ready, Fault, Join, Want, Place, Zero, Skip, All}
use Rattle.migration_types.specs.declared.cert.First.{First}
use Rattle.migration_types.specs.declared.cert.Entry.{Entry}
use Rattle.migration_types.specs.declared.cert.Entry.TheVariants.{Nothing, Fresh, Source, Balloon}
use Rattle.migration_types.specs.Sessions.{Recorded}
use Rattle.audit_model.specs.declared.reasons.ShapeReason.TheVariants.{Named}
use Rattle.audit_model.specs.Shape.{IsRightShape, passes, keeps, is_send_of, is_or_repeats, delivers, delivery, pager_named, is_placement_of, earlier}
use Rattle.audit_model.specs.Certificates.{IsLateTouch, IsOnlyPlacement, IsCovered, IsRightEntry}
use Rattle.audit_model.specs.Faults.{HasNoPageFault}
use Rattle.audit_model.specs.Laws.{IsFaultless, HasCertificate}
use Rattle.audit_model.proofs.History.{earlier_true, earlier_witness}
use Rattle.audit_model.proofs.FirstTouch.{IsFirstTouch, first_touch_below}
use Rattle.audit_model.proofs.Entries.{HasLook, IsFreedFirst, IsKept}
use Rattle.audit_model.proofs.Walked.{length_range}
use Rattle.audit_model.proofs.Clean.{clean_kept, clash, false_if_not_true}

-- the source's record that a placement rests on, and what it was delivered by
record HasSend (s : Recorded) (page got : ℕ) : Type 0 where
  send : ℕ
  sent : List ℕ
  is_sent : slice_get s.source send ≡ Some (Send page sent)
  delivered : ℕ
  is_delivery : delivery s got ≡ Some delivered
  is_the_send : (delivered ≡ send) ⊎ (slice_get s.source delivered ≡ Some (Again send))

sends_page : (page : ℕ) (o : Option SourceRec) → passes (is_send_of page) o ≡ true → (content : List ℕ) × (o ≡ Some (Send page content))
sends_page page None e = absurd (cc)
sends_page page (Some (Send p content)) e = (content, ap (λ k. Some (Send k content)) (eqb-true p page e))
sends_page page (Some (Halted h)) e = absurd (cc)
sends_page page (Some State) e = absurd (cc)
sends_page page (Some (Again i)) e = absurd (cc)
sends_page page (Some (Ask i)) e = absurd (cc)
sends_page page (Some Done) e = absurd (cc)
sends_page page (Some Back) e = absurd (cc)

has_send : (s : Recorded) (page got : ℕ) → delivers s (is_send_of page) got ≡ true → HasSend s page got
has_send s page got e = by_delivery (delivery s got) refl e
  where
    direct : (d : ℕ) → delivery s got ≡ Some d → passes (is_send_of page) (slice_get s.source d) ≡ true → HasSend s page got
    direct d is e =
        let f = sends_page page (slice_get s.source d) e in
        record { send = d; sent = f.0; is_sent = f.1; delivered = d; is_delivery = is; is_the_send = inl refl }

    by_record : (d : ℕ) → delivery s got ≡ Some d → (o : Option SourceRec) → slice_get s.source d ≡ o → passes (is_or_repeats s (is_send_of page)) o ≡ true → HasSend s page got
    by_record d is None at e = absurd (cc)
    by_record d is (Some (Again i)) at e =
        let f = sends_page page (slice_get s.source i) e in
        record { send = i; sent = f.0; is_sent = f.1; delivered = d; is_delivery = is; is_the_send = inr at }
    by_record d is (Some (Send p content)) at e = direct d is (ap (λ o. passes (is_send_of page) o) at ∙ e)
    by_record d is (Some (Halted h)) at e = absurd (cc)
    by_record d is (Some State) at e = absurd (cc)
    by_record d is (Some (Ask i)) at e = absurd (cc)
    by_record d is (Some Done) at e = absurd (cc)
    by_record d is (Some Back) at e = absurd (cc)

    by_delivery : (o : Option ℕ) → delivery s got ≡ o → passes (λ sending. passes (is_or_repeats s (is_send_of page)) (slice_get s.source sending)) o ≡ true → HasSend s page got
    by_delivery None is e = absurd (cc)
    by_delivery (Some d) is e = by_record d is (slice_get s.source d) refl e

module _ (s : Recorded) (shape : IsRightShape s) (clean : HasNoPageFault s) (page : ℕ) where
  kept : IsKept s page
  kept = clean_kept s clean page

  -- where the page is placed, its first touch after handover is covered
  covered : (place : ℕ) (by : PagerRec) → slice_get s.pager place ≡ Some by → is_placement_of page by ≡ true → (first : Option First) × IsCovered s page place first
  covered place by stands places = go (first_touch_below s page (length s.guest))
    where
      by_look : (m : ℕ) → IsFirstTouch s page m → HasLook s page m ⊎ IsFreedFirst s page → (first : Option First) × IsCovered s page place first
      by_look m first (inr freed) = clash _ places (freed.1.unplaced place by stands)
      by_look m first (inl look) =
          let same : look.place ≡ place = kept.once look.place place look.by by look.stands stands look.places places in (
            Some (record { access = m; see = look.see }),
            record {
              is_touch = first.touch;
              is_first = first.is_first;
              placement = look.placement;
              sees = look.sees;
              covers = omega (arith, look.covers);
              is_earlier = look.is_earlier;
            },
          )

      go : ((m : ℕ) × (m < length s.guest) × IsFirstTouch s page m) ⊎ ((m : ℕ) → m < length s.guest → IsLateTouch s page m → ⊥) → (first : Option First) × IsCovered s page place first
      go (inr none) = (None, λ n late. none n (slice_get_within s.guest n late.by late.stands) late)
      go (inl found) = by_look found.0 found.2 (kept.looks found.0 found.2.touch)

  only : (place : ℕ) (by : PagerRec) → slice_get s.pager place ≡ Some by → is_placement_of page by ≡ true → IsOnlyPlacement s page place
  only place by stands places n r is e = kept.once n place r by is stands e places

  placed : (place : ℕ) (by : PagerRec) → slice_get s.pager place ≡ Some by → is_placement_of page by ≡ true → (entry : Entry) × IsRightEntry s page entry
  placed place (Place p got content) stands places =
      let same : p ≡ page = eqb-true p page places in
      let at : slice_get s.pager place ≡ Some (Place page got content) = stands ∙ ap (λ k. Some (Place k got content)) same in
      let named : (nat_lt got place && delivers s (is_send_of page) got) ≡ true = sym (ap (λ o. keeps (pager_named s place) o) at) ∙ shape Named (Pager, place) in
      let send = has_send s page got (and_parts (nat_lt got place) (delivers s (is_send_of page) got) named).1 in
      let cover = covered place (Place p got content) stands places in (
        Source send.send place cover.0,
        (
          kept.honest,
          record {
            sent = send.sent;
            is_sent = send.is_sent;
            got = got;
            content = content;
            is_placed = at;
            delivered = send.delivered;
            is_delivery = send.is_delivery;
            is_the_send = send.is_the_send;
            is_flat = kept.placed_flat place got content at;
            is_only = only place (Place p got content) stands places;
            is_covered = cover.1;
          },
        ),
      )
  placed place (Zero p) stands places =
      let same : p ≡ page = eqb-true p page places in
      let at : slice_get s.pager place ≡ Some (Zero page) = stands ∙ ap (λ k. Some (Zero k)) same in
      let cover = covered place (Zero p) stands places in (
        Balloon place cover.0,
        (
          kept.honest,
          record {
            is_zeroed = at;
            is_only = only place (Zero p) stands places;
            is_released = kept.zeroed_released place at;
            is_covered = cover.1;
          },
        ),
      )
  placed place (Got k) stands places = absurd (cc)
  placed place (Pull k) stands places = absurd (cc)
  placed place Ready stands places = absurd (cc)
  placed place (Fault k) stands places = absurd (cc)
  placed place (Join k) stands places = absurd (cc)
  placed place (Want k) stands places = absurd (cc)
  placed place (Skip k) stands places = absurd (cc)
  placed place All stands places = absurd (cc)

  -- the page has a right entry
  right_entry : (entry : Entry) × IsRightEntry s page entry
  right_entry = go (earlier (is_placement_of page) s.pager (length s.pager)) refl
    where
      never : earlier (is_placement_of page) s.pager (length s.pager) ≡ false → (n : ℕ) (r : PagerRec) → slice_get s.pager n ≡ Some r → is_placement_of page r ≡ false
      never none n r is = false_if_not_true _ (λ e. clash _ (earlier_true (is_placement_of page) s.pager n (length s.pager) r is e (slice_get_within s.pager n r is)) none)

      -- the page is never placed: its first touch, if there is one, is a release
      absent : ((n : ℕ) (r : PagerRec) → slice_get s.pager n ≡ Some r → is_placement_of page r ≡ false) → ((m : ℕ) × (m < length s.guest) × IsFirstTouch s page m) ⊎ ((m : ℕ) → m < length s.guest → IsLateTouch s page m → ⊥) → (entry : Entry) × IsRightEntry s page entry
      absent unplaced (inr none) = (
        Nothing,
        (kept.honest, record { unplaced = unplaced; untouched = λ n late. none n (slice_get_within s.guest n late.by late.stands) late }),
      )
      absent unplaced (inl found) = freed (kept.looks found.0 found.2.touch)
        where
          freed : HasLook s page found.0 ⊎ IsFreedFirst s page → (entry : Entry) × IsRightEntry s page entry
          freed (inl look) = clash _ look.places (unplaced look.place look.by look.stands)
          freed (inr f) = (Fresh f.0, (kept.honest, f.1))

      go : (b : Bool) → earlier (is_placement_of page) s.pager (length s.pager) ≡ b → (entry : Entry) × IsRightEntry s page entry
      go true e = let w = earlier_witness (is_placement_of page) s.pager (length s.pager) e in placed w.0 w.1 w.3 w.4
      go false e = absent (never e) (first_touch_below s page (length s.guest))

entry_at : (f : ℕ → Entry) (n a k : ℕ) (entry : Entry) → slice_get (map f (range_with_len a n)) k ≡ Some entry → f (a + k) ≡ entry
entry_at f zero a k entry is = absurd (cc)
entry_at f (suc n) a zero entry is = let e : a + 0 ≡ a = omega arith in let same : f a ≡ entry = cc in ap f e ∙ same
entry_at f (suc n) a (suc k) entry is = let e : a + suc k ≡ (a + 1) + k = omega arith in ap f e ∙ entry_at f n (a + 1) k entry is

length_mapped : (f : ℕ → Entry) (xs : List ℕ) → length (map f xs) ≡ length xs
length_mapped f [] = refl
length_mapped f (x ∷ xs) = ap suc (length_mapped f xs)

pub has_certificate : (s : Recorded) → IsFaultless s → HasCertificate s
has_certificate s given runs merging = (
  map (λ page. (right page).0) (range_with_len 0 s.geometry.pages),
  record {
    pages = length_mapped (λ page. (right page).0) (range_with_len 0 s.geometry.pages) ∙ length_range 0 s.geometry.pages;
    entries = λ page entry is.
        let e : 0 + page ≡ page = omega arith in
        let same : (right page).0 ≡ entry = ap (λ k. (right k).0) (sym e) ∙ entry_at (λ page. (right page).0) s.geometry.pages 0 page entry is in
        subst (λ x. IsRightEntry s page x) same (right page).1;
    merging = merging;
  },
)
  where
    right : (page : ℕ) → (entry : Entry) × IsRightEntry s page entry
    right page = right_entry s given.shape given.clean page
