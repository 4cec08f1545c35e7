-- A page's faults through a window.
use Rattle.std.proofs.Common.{◌≡◌, ◌≢◌, ◌↔◌, ℕ, ◌≤◌, ◌==◌, Bool, true, false, List, Option, Some, None, refl, sym, ap, ◌∙◌, subst, eqb-true, eq-eqb}
use Rattle.std.specs.Prelude.{slice_get, is_some}
use Rattle.migration_types.specs.declared.records.LogName.TheVariants.{Guest, Source, Link, Lane, Pager}
use Rattle.migration_types.specs.declared.records.GuestRec.{GuestRec}
use Rattle.migration_types.specs.declared.records.GuestRec.TheVariants.{Read, Write, Release, Miss, Halt, Resume, See}
use Rattle.migration_types.specs.declared.records.SourceRec.{SourceRec}
use Rattle.migration_types.specs.declared.records.SourceRec.TheVariants.{Send}
use Rattle.migration_types.specs.declared.records.PagerRec.{PagerRec}
use Rattle.migration_types.specs.declared.records.PagerRec.TheVariants.{Place, Zero}
use Rattle.migration_types.specs.Sessions.{Recorded}
use Rattle.audit_model.specs.declared.reasons.PageReason.{PageReason}
use Rattle.audit_model.specs.declared.reasons.PageReason.TheVariants.{Read as WrongRead, Early, Given, Stale, Twice, Altered, Unfit, Over}
use Rattle.audit_model.specs.Flat.{home}
use Rattle.audit_model.specs.Certificates.{is_access_of, is_touch_of, IsLateTouch}
use Rattle.audit_model.specs.Faults.{has_looked, IsEarly, IsOver, GuestFault, SourceFault, PagerFault, if_fault}
use Rattle.audit_model.specs.Windows.{Numbers, IsNumbering, is_seen, new_page, keeps_source, keeps_guest, keeps_pager, marks, moved_to, new_guest, new_source, new_pager, is_marked, window}
use Rattle.audit_model.specs.WindowLaws.{KeepsPageFaults}
use Rattle.audit_model.proofs.Ranks.{Aligned, aligned_map, new_at, mark_of, came_from, rank_up, rank_down}
use Rattle.audit_model.proofs.WindowCells.{guest_aligned, guest_mark, guest_marked, same_page, same_flat, same_page_at_halt, same_ledger_at_halt}
use Rattle.audit_model.proofs.WindowFolds.{same_home, same_freed, same_placed}
use Rattle.audit_model.proofs.WindowLooks.{same_looked}

pub seen_at : (o : Option ℕ) → is_seen o ≡ true → o ≡ Some (new_page o)
seen_at None e = absurd (cc)
seen_at (Some q) e = refl

pub marked_true : (o : Option Bool) → is_marked o ≡ true → o ≡ Some true
marked_true None e = absurd (cc)
marked_true (Some b) e = ap Some e

-- where there is a mark, there is a record
pub is_there : {A : Type 0} (marks : List Bool) (log : List A) → Aligned marks log → (n : ℕ) → slice_get marks n ≡ Some true → slice_get log n ≡ None → ⊥
is_there marks log aligned n mark none = let f : true ≡ false = sym (ap is_some mark) ∙ aligned n ∙ ap is_some none in cc

by_same : {A : Type 0} (P : A → Type 0) {x y : A} → x ≡ y → P x ↔ P y
by_same P e = (subst P e, subst P (sym e))

both_ways : {A B C D : Type 0} → A ↔ B → C ↔ D → (A × C) ↔ (B × D)
both_ways f g = (λ h. (f.0 h.0, g.0 h.1), λ h. (f.1 h.0, g.1 h.1))

-- one page of the window
module _ (number : Numbers) (ours : IsNumbering number) (p q : ℕ) (at : number p ≡ Some q) (s : Recorded) (count : ℕ) where
  kept_access : (k : ℕ) (x : GuestRec) → keeps_guest s number k x ≡ true → is_access_of q (new_guest s number x) ≡ is_access_of p x
  kept_access k (Read c r d y) e = same_page number ours p q at r e
  kept_access k (Write c r d y) e = same_page number ours p q at r e
  kept_access k (Release c r) e = refl
  kept_access k (Miss c r) e = refl
  kept_access k Halt e = refl
  kept_access k (Resume i) e = refl
  kept_access k (See i) e = refl

  kept_touch : (k : ℕ) (x : GuestRec) → keeps_guest s number k x ≡ true → is_touch_of q (new_guest s number x) ≡ is_touch_of p x
  kept_touch k (Read c r d y) e = same_page number ours p q at r e
  kept_touch k (Write c r d y) e = same_page number ours p q at r e
  kept_touch k (Release c r) e = same_page number ours p q at r e
  kept_touch k (Miss c r) e = refl
  kept_touch k Halt e = refl
  kept_touch k (Resume i) e = refl
  kept_touch k (See i) e = refl

  seen_here : (r : ℕ) → (r == p) ≡ true → is_seen (number r) ≡ true
  seen_here r e = ap is_seen (ap number (eqb-true r p e) ∙ at)

  -- a touch of the page is kept
  touch_is_kept : (k : ℕ) (x : GuestRec) → is_touch_of p x ≡ true → keeps_guest s number k x ≡ true
  touch_is_kept k (Read c r d y) e = seen_here r e
  touch_is_kept k (Write c r d y) e = seen_here r e
  touch_is_kept k (Release c r) e = seen_here r e
  touch_is_kept k (Miss c r) e = absurd (cc)
  touch_is_kept k Halt e = refl
  touch_is_kept k (Resume i) e = refl
  touch_is_kept k (See i) e = absurd (cc)

  touch_mark : (n : ℕ) (x : GuestRec) → slice_get s.guest n ≡ Some x → is_touch_of p x ≡ true → slice_get (marks s number Guest) n ≡ Some true
  touch_mark n x is e = guest_mark s number n x is ∙ ap Some (touch_is_kept n x e)

  -- late touches are the same
  late_to : (n : ℕ) → IsLateTouch s p n → IsLateTouch (window number count s) q (moved_to s number Guest n)
  late_to n late =
      let mark = touch_mark n late.by late.stands late.is_touch in
      let r = guest_marked s number n late.by true late.stands mark in
      record {
        by = new_guest s number late.by;
        stands = new_at (new_guest s number) (marks s number Guest) s.guest n late.by late.stands mark;
        is_touch = kept_touch n late.by r ∙ late.is_touch;
        is_late = same_home s number count n ∙ late.is_late;
      }

  late_from : (m : ℕ) → IsLateTouch (window number count s) q m → (n : ℕ) × IsLateTouch s p n × (slice_get (marks s number Guest) n ≡ Some true) × (moved_to s number Guest n ≡ m)
  late_from m late =
      let f = came_from (new_guest s number) (marks s number Guest) s.guest m late.by late.stands in
      let r = guest_marked s number f.0 f.1 true f.2 f.3 in (
        f.0,
        record {
          by = f.1;
          stands = f.2;
          is_touch = sym (kept_touch f.0 f.1 r) ∙ ap (is_touch_of q) f.5 ∙ late.is_touch;
          is_late = sym (same_home s number count f.0) ∙ ap (home (window number count s)) f.4 ∙ late.is_late;
        },
        f.3,
        f.4,
      )

  release_from : (k v : ℕ) (x : GuestRec) → keeps_guest s number k x ≡ true → new_guest s number x ≡ Release v q → x ≡ Release v p
  release_from k v (Release c r) e f =
      let a : c ≡ v = cc in
      let b : new_page (number r) ≡ q = cc in
      let g : r ≡ p = ours r p q (seen_at (number r) e ∙ ap Some b) at in
      cc
  release_from k v (Read c r d y) e f = absurd (cc)
  release_from k v (Write c r d y) e f = absurd (cc)
  release_from k v (Miss c r) e f = absurd (cc)
  release_from k v Halt e f = absurd (cc)
  release_from k v (Resume i) e f = absurd (cc)
  release_from k v (See i) e f = absurd (cc)

  over_to : IsOver s p → IsOver (window number count s) q
  over_to o =
      let late : IsLateTouch s p o.release = record { by = Release o.vcpu p; stands = o.stands; is_touch = eq-eqb p p refl; is_late = o.is_late } in
      let mark = touch_mark o.release (Release o.vcpu p) o.stands late.is_touch in
      record {
        release = moved_to s number Guest o.release;
        vcpu = o.vcpu;
        stands = new_at (new_guest s number) (marks s number Guest) s.guest o.release (Release o.vcpu p) o.stands mark ∙ ap (λ k. Some (Release o.vcpu (new_page k))) at;
        is_late = same_home s number count o.release ∙ o.is_late;
        is_first = λ m other. let r = late_from m other in subst (λ k. moved_to s number Guest o.release ≤ k) r.3 (rank_up (marks s number Guest) o.release r.0 (o.is_first r.0 r.1));
        is_uncovered = same_looked number ours p q at s count o.release ∙ o.is_uncovered;
      }

  over_from : IsOver (window number count s) q → IsOver s p
  over_from o =
      let f = came_from (new_guest s number) (marks s number Guest) s.guest o.release (Release o.vcpu q) o.stands in
      let r = guest_marked s number f.0 f.1 true f.2 f.3 in
      let same = release_from f.0 o.vcpu f.1 r f.5 in
      record {
        release = f.0;
        vcpu = o.vcpu;
        stands = f.2 ∙ ap Some same;
        is_late = sym (same_home s number count f.0) ∙ ap (home (window number count s)) f.4 ∙ o.is_late;
        is_first = λ n late. rank_down (marks s number Guest) f.0 n (touch_mark n late.by late.stands late.is_touch) (subst (λ k. k ≤ moved_to s number Guest n) (sym f.4) (o.is_first (moved_to s number Guest n) (late_to n late)));
        is_uncovered = sym (same_looked number ours p q at s count f.0) ∙ ap (has_looked (window number count s) q) f.4 ∙ o.is_uncovered;
      }

  early_to : (n k : ℕ) (x : GuestRec) → keeps_guest s number k x ≡ true → IsEarly s n x p → IsEarly (window number count s) (moved_to s number Guest n) (new_guest s number x) q
  early_to n k x e early = record {
    is_access = kept_access k x e ∙ early.is_access;
    is_late = same_home s number count n ∙ early.is_late;
    is_kept = same_freed number ours p q at s count n ∙ early.is_kept;
    is_uncovered = same_looked number ours p q at s count n ∙ early.is_uncovered;
  }

  early_from : (n k : ℕ) (x : GuestRec) → keeps_guest s number k x ≡ true → IsEarly (window number count s) (moved_to s number Guest n) (new_guest s number x) q → IsEarly s n x p
  early_from n k x e early = record {
    is_access = sym (kept_access k x e) ∙ early.is_access;
    is_late = sym (same_home s number count n) ∙ early.is_late;
    is_kept = sym (same_freed number ours p q at s count n) ∙ early.is_kept;
    is_uncovered = sym (same_looked number ours p q at s count n) ∙ early.is_uncovered;
  }

module _ (number : Numbers) (ours : IsNumbering number) (s : Recorded) (count : ℕ) where
  -- an access of a page that is kept, and of which page
  access_seen : (k p : ℕ) (x : GuestRec) → keeps_guest s number k x ≡ true → is_access_of p x ≡ true → is_seen (number p) ≡ true
  access_seen k p (Read c r d y) e f = subst (λ i. is_seen (number i) ≡ true) (eqb-true r p f) e
  access_seen k p (Write c r d y) e f = subst (λ i. is_seen (number i) ≡ true) (eqb-true r p f) e
  access_seen k p (Release c r) e f = absurd (cc)
  access_seen k p (Miss c r) e f = absurd (cc)
  access_seen k p Halt e f = absurd (cc)
  access_seen k p (Resume i) e f = absurd (cc)
  access_seen k p (See i) e f = absurd (cc)

  access_from : (k q : ℕ) (x : GuestRec) → keeps_guest s number k x ≡ true → is_access_of q (new_guest s number x) ≡ true → (p : ℕ) × (number p ≡ Some q)
  access_from k q (Read c r d y) e f = (r, seen_at (number r) e ∙ ap Some (eqb-true (new_page (number r)) q f))
  access_from k q (Write c r d y) e f = (r, seen_at (number r) e ∙ ap Some (eqb-true (new_page (number r)) q f))
  access_from k q (Release c r) e f = absurd (cc)
  access_from k q (Miss c r) e f = absurd (cc)
  access_from k q Halt e f = absurd (cc)
  access_from k q (Resume i) e f = absurd (cc)
  access_from k q (See i) e f = absurd (cc)

  early_same : (n k : ℕ) (x : GuestRec) → keeps_guest s number k x ≡ true → ((page : ℕ) × IsEarly s n x page) ↔ ((page : ℕ) × IsEarly (window number count s) (moved_to s number Guest n) (new_guest s number x) page)
  early_same n k x e = (
    λ h. let at = seen_at (number h.0) (access_seen k h.0 x e h.1.is_access) in (new_page (number h.0), early_to number ours h.0 (new_page (number h.0)) at s count n k x e h.1),
    λ h. let f = access_from k h.0 x e h.1.is_access in (f.0, early_from number ours f.0 h.0 f.1 s count n k x e h.1),
  )

  guest_fault : (reason : PageReason) (n k : ℕ) (x : GuestRec) → keeps_guest s number k x ≡ true → GuestFault s reason n x ↔ GuestFault (window number count s) reason (moved_to s number Guest n) (new_guest s number x)
  guest_fault WrongRead n k (Read v p c value) e = by_same (λ y. value ≢ y) (sym (same_flat number ours p (new_page (number p)) (seen_at (number p) e) s count n c))
  guest_fault Early n k x e = early_same n k x e
  guest_fault WrongRead n k x e = (λ h. absurd h, λ h. absurd h)
  guest_fault reason n k x e = (λ h. absurd h, λ h. absurd h)

  source_fault : (reason : PageReason) (x : SourceRec) → keeps_source s number x ≡ true → SourceFault s reason x ↔ SourceFault (window number count s) reason (new_source s number x)
  source_fault Given (Send p content) e = by_same (λ b. b ≡ true) (sym (same_ledger_at_halt number ours p (new_page (number p)) (seen_at (number p) e) s count))
  source_fault Stale (Send p content) e = by_same (λ ys. content ≢ ys) (sym (same_page_at_halt number ours p (new_page (number p)) (seen_at (number p) e) s count))
  source_fault Given x e = (λ h. h, λ h. h)
  source_fault Stale x e = (λ h. h, λ h. h)
  source_fault reason x e = (λ h. h, λ h. h)

  pager_fault : (reason : PageReason) (n : ℕ) (x : PagerRec) → keeps_pager s number x ≡ true → PagerFault s reason n x ↔ PagerFault (window number count s) reason (moved_to s number Pager n) (new_pager s number x)
  pager_fault Twice n (Place p got content) e = by_same (λ b. b ≡ true) (sym (same_placed number ours p (new_page (number p)) (seen_at (number p) e) s count n))
  pager_fault Twice n (Zero p) e = by_same (λ b. b ≡ true) (sym (same_placed number ours p (new_page (number p)) (seen_at (number p) e) s count n))
  pager_fault Altered n (Place p got content) e = by_same (λ ys. content ≢ ys) (sym (same_page_at_halt number ours p (new_page (number p)) (seen_at (number p) e) s count))
  pager_fault Unfit n (Zero p) e = by_same (λ b. b ≡ false) (sym (same_ledger_at_halt number ours p (new_page (number p)) (seen_at (number p) e) s count))
  pager_fault Over n (Place p got content) e =
      let at = seen_at (number p) e in
      both_ways (by_same (λ b. b ≡ false) (sym (same_placed number ours p (new_page (number p)) at s count n))) (over_to number ours p (new_page (number p)) at s count, over_from number ours p (new_page (number p)) at s count)
  pager_fault Over n (Zero p) e =
      let at = seen_at (number p) e in
      both_ways (by_same (λ b. b ≡ false) (sym (same_placed number ours p (new_page (number p)) at s count n))) (over_to number ours p (new_page (number p)) at s count, over_from number ours p (new_page (number p)) at s count)
  pager_fault reason n x e = (λ h. h, λ h. h)

  -- the record of a name that is kept, and what it became
  fault_through : {A : Type 0} (fault new_fault : A → Type 0) (o new : Option A) (new_of : A → A) →
      ((x : A) → o ≡ Some x → (new ≡ Some (new_of x)) × (fault x ↔ new_fault (new_of x))) → (o ≡ None → ⊥) →
      if_fault fault o ↔ if_fault new_fault new
  fault_through fault new_fault None new new_of h some = absurd (some refl)
  fault_through fault new_fault (Some x) new new_of h some = let r = h x refl in subst (λ o. fault x ↔ if_fault new_fault o) (sym r.0) r.1

  pub keeps_page_faults : KeepsPageFaults s number count
  keeps_page_faults reason (Guest, n) kept =
      let mark = marked_true (slice_get (marks s number Guest) n) kept in
      fault_through (GuestFault s reason n) (GuestFault (window number count s) reason (moved_to s number Guest n)) (slice_get s.guest n) (slice_get (window number count s).guest (moved_to s number Guest n)) (new_guest s number)
      (λ x is. let r = guest_marked s number n x true is mark in (new_at (new_guest s number) (marks s number Guest) s.guest n x is mark, guest_fault reason n n x r))
      (is_there (marks s number Guest) s.guest (guest_aligned s number) n mark)
  keeps_page_faults reason (Source, n) kept =
      let mark = marked_true (slice_get (marks s number Source) n) kept in
      fault_through (SourceFault s reason) (SourceFault (window number count s) reason) (slice_get s.source n) (slice_get (window number count s).source (moved_to s number Source n)) (new_source s number)
      (λ x is. (new_at (new_source s number) (marks s number Source) s.source n x is mark, source_fault reason x (mark_of (keeps_source s number) s.source n x true is mark)))
      (is_there (marks s number Source) s.source (aligned_map (keeps_source s number) s.source) n mark)
  keeps_page_faults reason (Link, n) kept = (λ h. h, λ h. h)
  keeps_page_faults reason (Lane, n) kept = (λ h. h, λ h. h)
  keeps_page_faults reason (Pager, n) kept =
      let mark = marked_true (slice_get (marks s number Pager) n) kept in
      fault_through (PagerFault s reason n) (PagerFault (window number count s) reason (moved_to s number Pager n)) (slice_get s.pager n) (slice_get (window number count s).pager (moved_to s number Pager n)) (new_pager s number)
      (λ x is. (new_at (new_pager s number) (marks s number Pager) s.pager n x is mark, pager_fault reason n x (mark_of (keeps_pager s number) s.pager n x true is mark)))
      (is_there (marks s number Pager) s.pager (aligned_map (keeps_pager s number) s.pager) n mark)
