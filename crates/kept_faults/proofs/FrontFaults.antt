-- A page's faults in logs that are cut to a front.
use Rattle.std.proofs.Common.{◌≡◌, ◌≢◌, ◌↔◌, ℕ, zero, suc, ◌<◌, ◌≤◌, ◌⊎◌, inl, inr, ◌||◌, true, false, Option, Some, None, refl, sym, ap, ◌∙◌, subst, arith, eq-eqb}
use Rattle.std.specs.Prelude.{slice_get}
use Rattle.std.proofs.lemmas.Bool.{cases_lt}
use Rattle.migration_types.specs.declared.records.LogName.TheVariants.{Guest, Source, Link, Lane, Pager}
use Rattle.migration_types.specs.declared.records.GuestRec.{GuestRec}
use Rattle.migration_types.specs.declared.records.GuestRec.TheVariants.{Read, Release, See}
use Rattle.migration_types.specs.declared.records.SourceRec.{SourceRec}
use Rattle.migration_types.specs.declared.records.SourceRec.TheVariants.{Send}
use Rattle.migration_types.specs.declared.records.PagerRec.{PagerRec}
use Rattle.migration_types.specs.declared.records.PagerRec.TheVariants.{Place, Zero}
use Rattle.migration_types.specs.Receipts.{Name}
use Rattle.migration_types.specs.Memory.{initial, page_of}
use Rattle.migration_types.specs.Paged.{pager_page}
use Rattle.migration_types.specs.Sessions.{Recorded}
use Rattle.audit_model.specs.declared.reasons.PageReason.{PageReason}
use Rattle.audit_model.specs.declared.reasons.PageReason.TheVariants.{Read as WrongRead, Early, Given, Stale, Twice, Altered, Unfit, Over}
use Rattle.audit_model.specs.declared.home.Home.TheVariants.{AtSource}
use Rattle.audit_model.specs.Flat.{changed, cell_after, flat, released_after, in_ledger, home_after, home, freed_after, freed, at_halt}
use Rattle.audit_model.specs.Shape.{is_placement_of, earlier}
use Rattle.audit_model.specs.Certificates.{IsLateTouch}
use Rattle.audit_model.specs.Faults.{looks_at, has_looked, IsEarly, IsOver, GuestFault, SourceFault, PagerFault, if_fault, IsPageFault, HasNoPageFault}
use Rattle.audit_model.specs.Mergings.{Cursors}
use Rattle.audit_model.specs.Names.{if_there}
use Rattle.page_facts.specs.PageFaults.{page_at}
use Rattle.kept_faults.specs.FrontLaws.{IsInFront, HasHalt, HasTouch, KeepsFaults, FaultsWere}
use Rattle.recorder_files.specs.Fronts.{IsFront, cut_to}
use Rattle.kept_faults.proofs.Taken.{taken_at, taken_is, before_taken, halt_taken, fault_taken, faulty_is}
use Rattle.kept_faults.proofs.Named.{guest_there}

pub by_same : {A : Type 0} (P : A → Type 0) {x y : A} → x ≡ y → P y ↔ P x
by_same P e = (subst P (sym e), subst P e)

pub both_ways : {A B C D : Type 0} → A ↔ B → C ↔ D → (A × C) ↔ (B × D)
both_ways f g = (λ h. (f.0 h.0, g.0 h.1), λ h. (f.1 h.0, g.1 h.1))

module _ (s : Recorded) (c : Cursors) (front : IsFront s c) where
  -- the flat machine and the ledger, where the guest is, and what was placed, up to the front
  pub same_flat : (n : ℕ) → n ≤ c Guest → flat (cut_to c s) n ≡ flat s n
  same_flat n le = λ i p q. before_taken (cell_after p q) (initial s.init p q) (c Guest) s.guest n le i

  same_ledger : (n p : ℕ) → n ≤ c Guest → in_ledger (cut_to c s) n p ≡ in_ledger s n p
  same_ledger n p le = before_taken (released_after p) false (c Guest) s.guest n le

  same_home : (n : ℕ) → n ≤ c Guest → home (cut_to c s) n ≡ home s n
  same_home n le = before_taken home_after AtSource (c Guest) s.guest n le

  same_placed : (p n : ℕ) → n ≤ c Pager → earlier (is_placement_of p) (cut_to c s).pager n ≡ earlier (is_placement_of p) s.pager n
  same_placed p n le = before_taken (λ x found. is_placement_of p x || found) false (c Pager) s.pager n le

  same_freed : (n p : ℕ) → n ≤ c Guest → freed (cut_to c s) n p ≡ freed s n p
  same_freed zero p le = refl
  same_freed (suc n) p le =
      ap (λ o. changed (freed_after (home (cut_to c s) n) p) o (freed (cut_to c s) n p)) (taken_at (c Guest) s.guest n (omega arith))
      ∙ ap (λ h. changed (freed_after h p) (slice_get s.guest n) (freed (cut_to c s) n p)) (same_home n (omega arith))
      ∙ ap (changed (freed_after (home s n) p) (slice_get s.guest n)) (same_freed n p (omega arith))

  -- a look of the front names a placement of the front
  same_look : (p n : ℕ) (x : GuestRec) → n < c Guest → slice_get s.guest n ≡ Some x → looks_at (cut_to c s) p x ≡ looks_at s p x
  same_look p n (See k) lt is = let there = guest_there s c front n (See k) lt is in let below = there.0 in same_placed p (suc k) (omega (arith, below))
  same_look p n x lt is = refl

  same_looked : (p n : ℕ) → n ≤ c Guest → has_looked (cut_to c s) p n ≡ has_looked s p n
  same_looked p zero le = refl
  same_looked p (suc n) le =
      ap (λ o. changed (λ x found. looks_at (cut_to c s) p x || found) o (has_looked (cut_to c s) p n)) (taken_at (c Guest) s.guest n (omega arith))
      ∙ ap (changed (λ x found. looks_at (cut_to c s) p x || found) (slice_get s.guest n)) (same_looked p n (omega arith))
      ∙ go (slice_get s.guest n) refl
    where
      go : (o : Option GuestRec) → slice_get s.guest n ≡ o → changed (λ x found. looks_at (cut_to c s) p x || found) o (has_looked s p n) ≡ changed (λ x found. looks_at s p x || found) o (has_looked s p n)
      go None is = refl
      go (Some x) is = ap (λ b. b || has_looked s p n) (same_look p n x (omega arith) is)

  -- ---- faults of the guest

  same_early : (n p : ℕ) (x : GuestRec) → n < c Guest → IsEarly s n x p ↔ IsEarly (cut_to c s) n x p
  same_early n p x lt = (
    λ e. record {
      is_access = e.is_access;
      is_late = same_home n (omega arith) ∙ e.is_late;
      is_kept = same_freed n p (omega arith) ∙ e.is_kept;
      is_uncovered = same_looked p n (omega arith) ∙ e.is_uncovered;
    },
    λ e. record {
      is_access = e.is_access;
      is_late = sym (same_home n (omega arith)) ∙ e.is_late;
      is_kept = sym (same_freed n p (omega arith)) ∙ e.is_kept;
      is_uncovered = sym (same_looked p n (omega arith)) ∙ e.is_uncovered;
    },
  )

  guest_fault : (reason : PageReason) (n : ℕ) (x : GuestRec) → n < c Guest → GuestFault s reason n x ↔ GuestFault (cut_to c s) reason n x
  guest_fault WrongRead n (Read v p q value) lt = by_same (λ f. value ≢ f p q) (same_flat n (omega arith))
  guest_fault Early n x lt = (λ h. (h.0, (same_early n h.0 x lt).0 h.1), λ h. (h.0, (same_early n h.0 x lt).1 h.1))
  guest_fault WrongRead n x lt = (λ h. absurd h, λ h. absurd h)
  guest_fault reason n x lt = (λ h. absurd h, λ h. absurd h)

  -- ---- faults of the source, with the halt in the front

  same_halt : at_halt s ≤ c Guest → at_halt (cut_to c s) ≡ at_halt s
  same_halt le = halt_taken (c Guest) s.guest le

  same_ledger_at_halt : (p : ℕ) → at_halt s ≤ c Guest → in_ledger (cut_to c s) (at_halt (cut_to c s)) p ≡ in_ledger s (at_halt s) p
  same_ledger_at_halt p le = ap (λ n. in_ledger (cut_to c s) n p) (same_halt le) ∙ same_ledger (at_halt s) p le

  same_page_at_halt : (p : ℕ) → at_halt s ≤ c Guest → page_of s.geometry.cells (flat (cut_to c s) (at_halt (cut_to c s))) p ≡ page_of s.geometry.cells (flat s (at_halt s)) p
  same_page_at_halt p le = ap (λ f. page_of s.geometry.cells f p) (ap (flat (cut_to c s)) (same_halt le) ∙ same_flat (at_halt s) le)

  source_fault : (reason : PageReason) (x : SourceRec) → at_halt s ≤ c Guest → SourceFault s reason x ↔ SourceFault (cut_to c s) reason x
  source_fault Given (Send p content) le = by_same (λ b. b ≡ true) (same_ledger_at_halt p le)
  source_fault Stale (Send p content) le = by_same (λ ys. content ≢ ys) (same_page_at_halt p le)
  source_fault Given x le = (λ h. absurd h, λ h. absurd h)
  source_fault Stale x le = (λ h. absurd h, λ h. absurd h)
  source_fault reason x le = (λ h. absurd h, λ h. absurd h)

  -- ---- faults of the pager

  late_from : (p n : ℕ) → IsLateTouch (cut_to c s) p n → (n < c Guest) × IsLateTouch s p n
  late_from p n late =
      let r = taken_is (c Guest) s.guest n late.by late.stands in
      let lt = r.0 in
      (lt, record { by = late.by; stands = r.1; is_touch = late.is_touch; is_late = sym (same_home n (omega (arith, lt))) ∙ late.is_late })

  late_to : (p n : ℕ) → n < c Guest → IsLateTouch s p n → IsLateTouch (cut_to c s) p n
  late_to p n lt late = record { by = late.by; stands = taken_at (c Guest) s.guest n lt ∙ late.stands; is_touch = late.is_touch; is_late = same_home n (omega arith) ∙ late.is_late }

  -- a release that is the first touch in the front is the first of all
  over_from : (p : ℕ) → IsOver (cut_to c s) p → IsOver s p
  over_from p o =
      let r = taken_is (c Guest) s.guest o.release _ o.stands in
      let lt = r.0 in
      record {
        release = o.release;
        vcpu = o.vcpu;
        stands = r.1;
        is_late = sym (same_home o.release (omega (arith, lt))) ∙ o.is_late;
        is_first = λ n late. first lt n late (cases_lt n (c Guest));
        is_uncovered = sym (same_looked p o.release (omega (arith, lt))) ∙ o.is_uncovered;
      }
    where
      first : o.release < c Guest → (n : ℕ) → IsLateTouch s p n → (n < c Guest) ⊎ (c Guest ≤ n) → o.release ≤ n
      first lt n late (inl inside) = o.is_first n (late_to p n inside late)
      first lt n late (inr outside) = omega arith

  over_to : (p : ℕ) → HasTouch s c p → IsOver s p → IsOver (cut_to c s) p
  over_to p seen o =
      let touch = seen o.release (record { by = Release o.vcpu p; stands = o.stands; is_touch = eq-eqb p p refl; is_late = o.is_late }) in
      let inside = touch.2 in
      let le = o.is_first touch.0 touch.1 in
      record {
        release = o.release;
        vcpu = o.vcpu;
        stands = taken_at (c Guest) s.guest o.release (omega (arith, inside, le)) ∙ o.stands;
        is_late = same_home o.release (omega (arith, inside, le)) ∙ o.is_late;
        is_first = λ n late. o.is_first n (late_from p n late).1;
        is_uncovered = same_looked p o.release (omega (arith, inside, le)) ∙ o.is_uncovered;
      }

  same_over : (p : ℕ) → HasTouch s c p → IsOver s p ↔ IsOver (cut_to c s) p
  same_over p seen = (over_to p seen, over_from p)

  pager_fault : (reason : PageReason) (n : ℕ) (x : PagerRec) → n < c Pager → at_halt s ≤ c Guest → (reason ≡ Over → (page : ℕ) → pager_page x ≡ Some page → HasTouch s c page) → PagerFault s reason n x ↔ PagerFault (cut_to c s) reason n x
  pager_fault Twice n (Place p got content) lt le all = by_same (λ b. b ≡ true) (same_placed p n (omega arith))
  pager_fault Twice n (Zero p) lt le all = by_same (λ b. b ≡ true) (same_placed p n (omega arith))
  pager_fault Altered n (Place p got content) lt le all = by_same (λ ys. content ≢ ys) (same_page_at_halt p le)
  pager_fault Unfit n (Zero p) lt le all = by_same (λ b. b ≡ false) (same_ledger_at_halt p le)
  pager_fault Over n (Place p got content) lt le all = both_ways (by_same (λ b. b ≡ false) (same_placed p n (omega arith))) (same_over p (all refl p refl))
  pager_fault Over n (Zero p) lt le all = both_ways (by_same (λ b. b ≡ false) (same_placed p n (omega arith))) (same_over p (all refl p refl))
  pager_fault Twice n x lt le all = (λ h. absurd h, λ h. absurd h)
  pager_fault Altered n x lt le all = (λ h. absurd h, λ h. absurd h)
  pager_fault Unfit n x lt le all = (λ h. absurd h, λ h. absurd h)
  pager_fault Over n x lt le all = (λ h. absurd h, λ h. absurd h)
  pager_fault reason n x lt le all = (λ h. absurd h, λ h. absurd h)

  over_fault_from : (n : ℕ) (x : PagerRec) → n < c Pager → PagerFault (cut_to c s) Over n x → PagerFault s Over n x
  over_fault_from n (Place p got content) lt h = (sym (same_placed p n (omega arith)) ∙ h.0, over_from p h.1)
  over_fault_from n (Zero p) lt h = (sym (same_placed p n (omega arith)) ∙ h.0, over_from p h.1)
  over_fault_from n x lt h = absurd h

  pager_fault_from : (reason : PageReason) (n : ℕ) (x : PagerRec) → n < c Pager → at_halt s ≤ c Guest → PagerFault (cut_to c s) reason n x → PagerFault s reason n x
  pager_fault_from Over n x lt le h = over_fault_from n x lt h
  pager_fault_from reason n x lt le h = (pager_fault reason n x lt le (λ e. absurd (cc))).1 h

  -- ---- by records

  pub keeps_at : HasHalt s c → (reason : PageReason) (name : Name) → IsInFront c name → (reason ≡ Over → name.0 ≡ Pager → (page : ℕ) → page_at s name ≡ Some page → HasTouch s c page) → IsPageFault s reason name ↔ IsPageFault (cut_to c s) reason name
  keeps_at halt reason (Guest, n) lt all = fault_taken (GuestFault s reason n) (GuestFault (cut_to c s) reason n) (c Guest) s.guest n lt (λ x is. guest_fault reason n x lt)
  keeps_at halt reason (Source, n) lt all = let le = halt (inl (omega (arith, lt))) in fault_taken (SourceFault s reason) (SourceFault (cut_to c s) reason) (c Source) s.source n lt (λ x is. source_fault reason x le)
  keeps_at halt reason (Link, n) lt all = (λ h. h, λ h. h)
  keeps_at halt reason (Lane, n) lt all = (λ h. h, λ h. h)
  keeps_at halt reason (Pager, n) lt all = let le = halt (inr (omega (arith, lt))) in fault_taken (PagerFault s reason n) (PagerFault (cut_to c s) reason n) (c Pager) s.pager n lt (λ x is. pager_fault reason n x lt le (λ over page of. all over refl page (ap (if_there pager_page) is ∙ of)))

  pub keeps_faults : HasHalt s c → KeepsFaults s c
  keeps_faults halt reason name lt all = keeps_at halt reason name lt (λ over is. all over)

  pub faults_were : HasHalt s c → FaultsWere s c
  faults_were halt reason (Guest, n) h =
      let r = faulty_is (GuestFault (cut_to c s) reason n) (c Guest) s.guest n h in
      (r.1, subst (if_fault (GuestFault s reason n)) (sym r.2) ((guest_fault reason n r.0 r.1).1 r.3))
  faults_were halt reason (Source, n) h =
      let r = faulty_is (SourceFault (cut_to c s) reason) (c Source) s.source n h in
      let lt = r.1 in
      (lt, subst (if_fault (SourceFault s reason)) (sym r.2) ((source_fault reason r.0 (halt (inl (omega (arith, lt))))).1 r.3))
  faults_were halt reason (Link, n) h = absurd h
  faults_were halt reason (Lane, n) h = absurd h
  faults_were halt reason (Pager, n) h =
      let r = faulty_is (PagerFault (cut_to c s) reason n) (c Pager) s.pager n h in
      let lt = r.1 in
      (lt, subst (if_fault (PagerFault s reason n)) (sym r.2) (pager_fault_from reason n r.0 lt (halt (inr (omega (arith, lt)))) r.3))

  pub still_clean : HasHalt s c → HasNoPageFault s → HasNoPageFault (cut_to c s)
  still_clean halt clean reason name h = clean reason name (faults_were halt reason name h).1
