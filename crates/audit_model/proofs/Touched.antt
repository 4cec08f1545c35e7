-- Which pages the guest has touched after handover, and what stays as it was at the halt.
use Rattle.std.proofs.Common.{◌≡◌, ◌≢◌, ℕ, zero, suc, ◌<◌, ◌≤◌, ◌⊎◌, inl, inr, Bool, true, false, ◌&&◌, cond, Option, Some, None, refl, sym, ap, ◌∙◌, subst, arith}
use Rattle.std.specs.Prelude.{slice_get, ◌==◌}
use Rattle.std.proofs.lemmas.Bool.{cases_lt}
use Rattle.migration_types.specs.declared.records.GuestRec.{GuestRec}
use Rattle.migration_types.specs.declared.records.GuestRec.TheVariants.{Read, Write, Release, Miss, Halt, Resume, See}
use Rattle.migration_types.specs.Sessions.{Recorded}
use Rattle.audit_model.specs.Flat.{changed, cell_after, flat, released_after, in_ledger, Home, AtSource, Nowhere, AtTarget, home_after, home, at_halt, freed, marked_late, freed_after}
use Rattle.audit_model.specs.Shape.{IsRightShape}
use Rattle.audit_model.specs.Certificates.{is_access_of, is_touch_of, IsLateTouch}
use Rattle.audit_model.specs.Worlds.{touch_after, touched}
use Rattle.audit_model.proofs.History.{AtSource≢AtTarget, AtSource≢Nowhere, home_at_write, home_at_release, home_at_resume, halt_is_at_halt}

-- a page of the ledger reads as zeros
released_zero_step : (q d : ℕ) (r : GuestRec) (b : Bool) (x : ℕ) → (b ≡ true → x ≡ 0) → released_after q r b ≡ true → cell_after q d r x ≡ 0
released_zero_step q d (Write v p c y) b x h e = go (p == q) e
  where
    go : (t : Bool) → cond t false b ≡ true → cond (t && (c == d)) y x ≡ 0
    go true e = absurd (cc)
    go false e = h e
released_zero_step q d (Release v p) b x h e = go (p == q) e
  where
    go : (t : Bool) → cond t true b ≡ true → cond t 0 x ≡ 0
    go true e = refl
    go false e = h e
released_zero_step q d (Read v p c y) b x h e = h e
released_zero_step q d (Miss v p) b x h e = h e
released_zero_step q d Halt b x h e = h e
released_zero_step q d (Resume i) b x h e = h e
released_zero_step q d (See k) b x h e = h e

pub released_zero : (s : Recorded) (n q d : ℕ) → in_ledger s n q ≡ true → flat s n q d ≡ 0
released_zero s zero q d e = absurd (cc)
released_zero s (suc n) q d e = go (released_zero s n q d) (slice_get s.guest n) e
  where
    go : (in_ledger s n q ≡ true → flat s n q d ≡ 0) → (o : Option GuestRec) → changed (released_after q) o (in_ledger s n q) ≡ true → changed (cell_after q d) o (flat s n q d) ≡ 0
    go rec None e = rec e
    go rec (Some r) e = released_zero_step q d r (in_ledger s n q) (flat s n q d) rec e

untouched_before : (h : Home) (t old : Bool) → marked_late h t old ≡ false → old ≡ false
untouched_before AtSource t old e = e
untouched_before Nowhere t old e = e
untouched_before AtTarget true old e = absurd (cc)
untouched_before AtTarget false old e = e

untouched_write : (h : Home) (t u old : Bool) (v x y : ℕ) → h ≢ Nowhere → h ≢ AtSource → marked_late h t old ≡ false → (old ≡ false → x ≡ y) → cond (t && u) v x ≡ y
untouched_write AtSource t u old v x y a b e f = absurd (b refl)
untouched_write Nowhere t u old v x y a b e f = absurd (a refl)
untouched_write AtTarget true u old v x y a b e f = absurd (cc)
untouched_write AtTarget false u old v x y a b e f = f e

untouched_release : (h : Home) (t old : Bool) (x y : ℕ) → h ≢ Nowhere → h ≢ AtSource → marked_late h t old ≡ false → (old ≡ false → x ≡ y) → cond t 0 x ≡ y
untouched_release AtSource t old x y a b e f = absurd (b refl)
untouched_release Nowhere t old x y a b e f = absurd (a refl)
untouched_release AtTarget true old x y a b e f = absurd (cc)
untouched_release AtTarget false old x y a b e f = f e

module _ (s : Recorded) (shape : IsRightShape s) where
  -- past the halt an untouched page keeps its flat content
  pub flat_kept : (n q d : ℕ) → home s n ≢ AtSource → touched s n q ≡ false → flat s n q d ≡ flat s (at_halt s) q d
  flat_kept zero q d left free = absurd (left refl)
  flat_kept (suc n) q d left free = go (flat_kept n q d) (slice_get s.guest n) refl left free
    where
      go : (home s n ≢ AtSource → touched s n q ≡ false → flat s n q d ≡ flat s (at_halt s) q d) → (o : Option GuestRec) → slice_get s.guest n ≡ o → changed home_after o (home s n) ≢ AtSource → changed (touch_after (home s n) q) o (touched s n q) ≡ false → changed (cell_after q d) o (flat s n q d) ≡ flat s (at_halt s) q d
      go rec None is left free = rec left free
      go rec (Some Halt) is left free = ap (λ k. flat s k q d) (sym (halt_is_at_halt s shape n is))
      go rec (Some (Resume i)) is left free = rec (λ e. AtSource≢Nowhere (sym e ∙ home_at_resume s shape n i is)) free
      go rec (Some (Read v p c x)) is left free = rec left (untouched_before (home s n) (p == q) (touched s n q) free)
      go rec (Some (Write v p c x)) is left free = untouched_write (home s n) (p == q) (c == d) (touched s n q) x _ _ (home_at_write s shape n v p c x is) left free (rec left)
      go rec (Some (Release v p)) is left free = untouched_release (home s n) (p == q) (touched s n q) _ _ (home_at_release s shape n v p is) left free (rec left)
      go rec (Some (Miss v p)) is left free = rec left free
      go rec (Some (See k)) is left free = rec left free

-- an access is a touch
pub access_touches : (q : ℕ) (r : GuestRec) → is_access_of q r ≡ true → is_touch_of q r ≡ true
access_touches q (Read v p d x) e = e
access_touches q (Write v p d x) e = e
access_touches q (Release v p) e = absurd (cc)
access_touches q (Miss v p) e = absurd (cc)
access_touches q Halt e = absurd (cc)
access_touches q (Resume k) e = absurd (cc)
access_touches q (See k) e = absurd (cc)

-- a touched page was read, written or released after handover
pub touched_access : (s : Recorded) (n q : ℕ) → touched s n q ≡ true → (m : ℕ) × (m < n) × IsLateTouch s q m
touched_access s zero q e = absurd (cc)
touched_access s (suc n) q e = go (λ b. let r = touched_access s n q b in (r.0, omega (arith, r.1), r.2)) (slice_get s.guest n) refl e
  where
    here : (r : GuestRec) → slice_get s.guest n ≡ Some r → (h : Home) → home s n ≡ h → (t : Bool) → is_touch_of q r ≡ t → (touched s n q ≡ true → (m : ℕ) × (m < suc n) × IsLateTouch s q m) → marked_late h t (touched s n q) ≡ true → (m : ℕ) × (m < suc n) × IsLateTouch s q m
    here r is AtSource at t by rec e = rec e
    here r is Nowhere at t by rec e = rec e
    here r is AtTarget at true by rec e = (n, omega arith, record { by = r; stands = is; is_touch = by; is_late = at })
    here r is AtTarget at false by rec e = rec e

    go : (touched s n q ≡ true → (m : ℕ) × (m < suc n) × IsLateTouch s q m) → (o : Option GuestRec) → slice_get s.guest n ≡ o → changed (touch_after (home s n) q) o (touched s n q) ≡ true → (m : ℕ) × (m < suc n) × IsLateTouch s q m
    go rec None is e = rec e
    go rec (Some Halt) is e = rec e
    go rec (Some (Resume i)) is e = rec e
    go rec (Some (Read v p c x)) is e = here (Read v p c x) is (home s n) refl (p == q) refl rec e
    go rec (Some (Write v p c x)) is e = here (Write v p c x) is (home s n) refl (p == q) refl rec e
    go rec (Some (Release v p)) is e = here (Release v p) is (home s n) refl (p == q) refl rec e
    go rec (Some (Miss v p)) is e = rec e
    go rec (Some (See k)) is e = rec e

-- the guest never comes back to the source
home_stays : (s : Recorded) (m n : ℕ) → m ≤ n → home s m ≢ AtSource → home s n ≢ AtSource
home_stays s m zero le left = subst (λ k. home s k ≢ AtSource) (zero_is m le) left
  where
    zero_is : (m : ℕ) → m ≤ 0 → m ≡ 0
    zero_is m le = omega arith
home_stays s m (suc n) le left = go (λ l. home_stays s m n l left) (cases_lt m (suc n))
  where
    after : (o : Option GuestRec) → home s n ≢ AtSource → changed home_after o (home s n) ≢ AtSource
    after None k = k
    after (Some Halt) k = λ e. cc
    after (Some (Resume i)) k = λ e. cc
    after (Some (Read v p c x)) k = k
    after (Some (Write v p c x)) k = k
    after (Some (Release v p)) k = k
    after (Some (Miss v p)) k = k
    after (Some (See i)) k = k

    go : (m ≤ n → home s n ≢ AtSource) → (m < suc n) ⊎ (suc n ≤ m) → home s (suc n) ≢ AtSource
    go rec (inl lt) = after (slice_get s.guest n) (rec (omega arith))
    go rec (inr ge) = let same : m ≡ suc n = omega arith in subst (λ k. home s k ≢ AtSource) same left

-- a freed page was released after handover
pub freed_by : (s : Recorded) (n q : ℕ) → freed s n q ≡ true → (m : ℕ) × (m < n) × IsLateTouch s q m
freed_by s zero q e = absurd (cc)
freed_by s (suc n) q e = go (λ f. let r = freed_by s n q f in (r.0, omega (arith, r.1), r.2)) (slice_get s.guest n) refl e
  where
    here : (v p : ℕ) → slice_get s.guest n ≡ Some (Release v p) → (h : Home) → home s n ≡ h → (t : Bool) → (p == q) ≡ t → (freed s n q ≡ true → (m : ℕ) × (m < suc n) × IsLateTouch s q m) → marked_late h t (freed s n q) ≡ true → (m : ℕ) × (m < suc n) × IsLateTouch s q m
    here v p is AtSource at t by rec e = rec e
    here v p is Nowhere at t by rec e = rec e
    here v p is AtTarget at true by rec e = (n, omega arith, record { by = Release v p; stands = is; is_touch = by; is_late = at })
    here v p is AtTarget at false by rec e = rec e

    go : (freed s n q ≡ true → (m : ℕ) × (m < suc n) × IsLateTouch s q m) → (o : Option GuestRec) → slice_get s.guest n ≡ o → changed (freed_after (home s n) q) o (freed s n q) ≡ true → (m : ℕ) × (m < suc n) × IsLateTouch s q m
    go rec None is e = rec e
    go rec (Some (Release v p)) is e = here v p is (home s n) refl (p == q) refl rec e
    go rec (Some Halt) is e = rec e
    go rec (Some (Resume i)) is e = rec e
    go rec (Some (Read v p c x)) is e = rec e
    go rec (Some (Write v p c x)) is e = rec e
    go rec (Some (Miss v p)) is e = rec e
    go rec (Some (See k)) is e = rec e

-- so the guest has left the source
pub left_if_freed : (s : Recorded) (n q : ℕ) → freed s n q ≡ true → home s n ≢ AtSource
left_if_freed s n q e =
    let r = freed_by s n q e in
    home_stays s r.0 n (omega (arith, r.1)) (λ f. AtSource≢AtTarget (sym f ∙ r.2.is_late))

-- what was marked is marked still
pub mark_stays : (h : Home) (b : Bool) {old : Bool} → old ≡ true → marked_late h b old ≡ true
mark_stays AtSource b e = e
mark_stays Nowhere b e = e
mark_stays AtTarget true e = refl
mark_stays AtTarget false e = e

-- what was released after handover is freed
pub freed_true : (s : Recorded) (m n v q : ℕ) → slice_get s.guest m ≡ Some (Release v q) → home s m ≡ AtTarget → (q == q) ≡ true → m < n → freed s n q ≡ true
freed_true s m zero v q is at same lt = absurd (omega arith)
freed_true s m (suc n) v q is at same lt = go (λ l. freed_true s m n v q is at same l) (cases_lt m n)
  where
    kept : (o : Option GuestRec) → freed s n q ≡ true → changed (freed_after (home s n) q) o (freed s n q) ≡ true
    kept None e = e
    kept (Some (Release w p)) e = mark_stays (home s n) (p == q) e
    kept (Some Halt) e = e
    kept (Some (Resume i)) e = e
    kept (Some (Read w p c x)) e = e
    kept (Some (Write w p c x)) e = e
    kept (Some (Miss w p)) e = e
    kept (Some (See k)) e = e

    here : (k : ℕ) → m ≡ k → changed (freed_after (home s k) q) (slice_get s.guest k) (freed s k q) ≡ true
    here k e =
        let is' : slice_get s.guest k ≡ Some (Release v q) = subst (λ j. slice_get s.guest j ≡ Some (Release v q)) e is in
        let at' : home s k ≡ AtTarget = subst (λ j. home s j ≡ AtTarget) e at in
        ap (λ o. changed (freed_after (home s k) q) o (freed s k q)) is' ∙ ap (λ h. marked_late h (q == q) (freed s k q)) at' ∙ ap (λ b. cond b true (freed s k q)) same

    go : (m < n → freed s n q ≡ true) → (m < n) ⊎ (n ≤ m) → freed s (suc n) q ≡ true
    go rec (inl l) = kept (slice_get s.guest n) (rec l)
    go rec (inr l) = here n (omega arith)

-- and what was read, written or released there is touched
pub touched_true : (s : Recorded) (m n q : ℕ) → IsLateTouch s q m → m < n → touched s n q ≡ true
touched_true s m zero q late lt = absurd (omega arith)
touched_true s m (suc n) q late lt = go (λ l. touched_true s m n q late l) (cases_lt m n)
  where
    kept : (o : Option GuestRec) → touched s n q ≡ true → changed (touch_after (home s n) q) o (touched s n q) ≡ true
    kept None e = e
    kept (Some (Release w p)) e = mark_stays (home s n) (p == q) e
    kept (Some Halt) e = e
    kept (Some (Resume i)) e = e
    kept (Some (Read w p c x)) e = mark_stays (home s n) (p == q) e
    kept (Some (Write w p c x)) e = mark_stays (home s n) (p == q) e
    kept (Some (Miss w p)) e = e
    kept (Some (See k)) e = e

    record_touches : (r : GuestRec) (k : ℕ) → is_touch_of q r ≡ true → touch_after AtTarget q r (touched s k q) ≡ true
    record_touches (Read v p c x) k e = ap (λ b. cond b true (touched s k q)) e
    record_touches (Write v p c x) k e = ap (λ b. cond b true (touched s k q)) e
    record_touches (Release v p) k e = ap (λ b. cond b true (touched s k q)) e
    record_touches (Miss v p) k e = absurd (cc)
    record_touches Halt k e = absurd (cc)
    record_touches (Resume i) k e = absurd (cc)
    record_touches (See i) k e = absurd (cc)

    here : (k : ℕ) → m ≡ k → changed (touch_after (home s k) q) (slice_get s.guest k) (touched s k q) ≡ true
    here k e =
        let is' : slice_get s.guest k ≡ Some late.by = subst (λ j. slice_get s.guest j ≡ Some late.by) e late.stands in
        let at' : home s k ≡ AtTarget = subst (λ j. home s j ≡ AtTarget) e late.is_late in
        ap (λ o. changed (touch_after (home s k) q) o (touched s k q)) is' ∙ ap (λ h. touch_after h q late.by (touched s k q)) at' ∙ record_touches late.by k late.is_touch

    go : (m < n → touched s n q ≡ true) → (m < n) ⊎ (n ≤ m) → touched s (suc n) q ≡ true
    go rec (inl l) = kept (slice_get s.guest n) (rec l)
    go rec (inr l) = here n (omega arith)
