-- A page's faults with thinned logs.
use Rattle.std.proofs.Common.{◌≡◌, ◌≢◌, ◌↔◌, ℕ, ◌≤◌, Bool, true, false, List, length, map, Option, Some, None, refl, sym, ap, ◌∙◌, subst, arith, eqb-true}
use Rattle.std.specs.Prelude.{slice_get}
use Rattle.std.specs.Option.{option_map}
use Rattle.std.proofs.lemmas.Option.{slice_get-map}
use Rattle.migration_types.specs.declared.records.LogName.TheVariants.{Guest, Source, Link, Lane, Pager}
use Rattle.migration_types.specs.declared.records.GuestRec.{GuestRec}
use Rattle.migration_types.specs.declared.records.GuestRec.TheVariants.{Read, Write, Release}
use Rattle.migration_types.specs.declared.records.SourceRec.{SourceRec}
use Rattle.migration_types.specs.declared.records.SourceRec.TheVariants.{Send}
use Rattle.migration_types.specs.declared.records.PagerRec.{PagerRec}
use Rattle.migration_types.specs.declared.records.PagerRec.TheVariants.{Place, Zero}
use Rattle.migration_types.specs.Paged.{guest_page, source_page, pager_page}
use Rattle.migration_types.specs.Sessions.{Recorded}
use Rattle.audit_model.specs.Names.{if_there}
use Rattle.audit_model.specs.declared.reasons.PageReason.{PageReason}
use Rattle.audit_model.specs.declared.reasons.PageReason.TheVariants.{Read as WrongRead, Early, Given, Stale, Twice, Altered, Unfit, Over}
use Rattle.audit_model.specs.declared.home.Home.TheVariants.{AtTarget}
use Rattle.audit_model.specs.Flat.{home}
use Rattle.audit_model.specs.Shape.{is_placement_of, earlier}
use Rattle.audit_model.specs.Certificates.{is_touch_of, IsLateTouch}
use Rattle.audit_model.specs.Worlds.{touched}
use Rattle.audit_model.specs.Faults.{looks_at, has_looked, IsEarly, IsOver, GuestFault, SourceFault, PagerFault, if_fault}
use Rattle.audit_model.specs.Windows.{rank}
use Rattle.audit_model.proofs.History.{earlier_true, earlier_witness}
use Rattle.audit_model.proofs.Touched.{touched_access}
use Rattle.audit_model.proofs.FirstTouch.{IsFirstTouch, first_touch_at}
use Rattle.audit_model.proofs.Ranks.{kept_at, rank_up, rank_down}
use Rattle.audit_model.proofs.WindowFaults.{is_there}
use Rattle.kept_faults.proofs.FrontFaults.{both_ways, by_same}
use Rattle.kept_faults.specs.Thinned.{thin_source, thin_pager, thinned, HasUsed, IsMisread, MayGo, IsThinning}
use Rattle.kept_faults.specs.ThinLaws.{KeepsFaults}
use Rattle.kept_faults.proofs.Kept.{aligned, kept_from, must_stay}
use Rattle.kept_faults.proofs.Machine.{same_home, same_freed, same_placed, same_looked, same_at_read, same_page_at_halt, same_ledger_at_halt}

pub false_unless : (b : Bool) → (b ≡ true → ⊥) → b ≡ false
false_unless true never = absurd (never refl)
false_unless false never = refl

-- a look that covers a page covers it from then on
pub not_looked_before : (s : Recorded) (page m n : ℕ) → m ≤ n → has_looked s page n ≡ false → has_looked s page m ≡ false
not_looked_before s page m n le e = false_unless (has_looked s page m) (λ f.
    let w = earlier_witness (looks_at s page) s.guest m f in
    let g = earlier_true (looks_at s page) s.guest w.0 n w.1 w.3 w.4 (omega (arith, le, w.2)) in
    cc)

module _ (marks : List Bool) (s : Recorded) (thin : IsThinning marks s) where
  -- a touch that goes is not its page's first
  pub used_before : (n page : ℕ) (x : GuestRec) → MayGo marks s n x → is_touch_of page x ≡ true → home s n ≡ AtTarget → touched s n page ≡ true
  used_before n page (Read v p c y) h e at = subst (λ q. touched s n q ≡ true) (eqb-true p page e) (subst (λ k. HasUsed k (touched s n p)) at h.0)
  used_before n page (Write v p c y) h e at = subst (λ q. touched s n q ≡ true) (eqb-true p page e) (subst (λ k. HasUsed k (touched s n p)) at h.0)
  used_before n page x h e at = absurd h

  pub first_is_kept : (page n : ℕ) → IsFirstTouch s page n → slice_get marks n ≡ Some true
  first_is_kept page n first = must_stay marks s thin n first.touch.by first.touch.stands (λ h.
      let before = touched_access s n page (used_before n page first.touch.by h first.touch.is_touch first.touch.is_late) in
      let le = first.is_first before.0 before.2 in
      omega (arith, le, before.1))

  late_to : (page n : ℕ) → slice_get marks n ≡ Some true → IsLateTouch s page n → IsLateTouch (thinned marks s) page (rank marks n)
  late_to page n mark late = record {
    by = late.by;
    stands = kept_at marks s.guest n late.by late.stands mark;
    is_touch = late.is_touch;
    is_late = same_home marks s thin n ∙ late.is_late;
  }

  late_from : (page m : ℕ) → IsLateTouch (thinned marks s) page m → (n : ℕ) × IsLateTouch s page n × (slice_get marks n ≡ Some true) × (rank marks n ≡ m)
  late_from page m late =
      let f = kept_from marks s.guest m late.by late.stands in (
        f.0,
        record {
          by = late.by;
          stands = f.1;
          is_touch = late.is_touch;
          is_late = sym (same_home marks s thin f.0) ∙ ap (home (thinned marks s)) f.3 ∙ late.is_late;
        },
        f.2,
        f.3,
      )

  over_to : (page : ℕ) → IsOver s page → IsOver (thinned marks s) page
  over_to page o = record {
    release = rank marks o.release;
    vcpu = o.vcpu;
    stands = kept_at marks s.guest o.release (Release o.vcpu page) o.stands (must_stay marks s thin o.release (Release o.vcpu page) o.stands (λ h. h));
    is_late = same_home marks s thin o.release ∙ o.is_late;
    is_first = λ m other. let r = late_from page m other in subst (λ k. rank marks o.release ≤ k) r.3 (rank_up marks o.release r.0 (o.is_first r.0 r.1));
    is_uncovered = same_looked marks s thin page o.release ∙ o.is_uncovered;
  }

  over_from : (page : ℕ) → IsOver (thinned marks s) page → IsOver s page
  over_from page o =
      let f = kept_from marks s.guest o.release (Release o.vcpu page) o.stands in
      record {
        release = f.0;
        vcpu = o.vcpu;
        stands = f.1;
        is_late = sym (same_home marks s thin f.0) ∙ ap (home (thinned marks s)) f.3 ∙ o.is_late;
        is_first = λ n late.
            let first = first_touch_at s page n late in
            let mark = first_is_kept page first.0 first.2 in
            let le = o.is_first (rank marks first.0) (late_to page first.0 mark first.2.touch) in
            let down = rank_down marks f.0 first.0 mark (subst (λ k. k ≤ rank marks first.0) (sym f.3) le) in
            omega (arith, down, first.1);
        is_uncovered = sym (same_looked marks s thin page f.0) ∙ ap (has_looked (thinned marks s) page) f.3 ∙ o.is_uncovered;
      }

  early_same : (n page : ℕ) (x : GuestRec) → IsEarly s n x page ↔ IsEarly (thinned marks s) (rank marks n) x page
  early_same n page x = (
    λ e. record {
      is_access = e.is_access;
      is_late = same_home marks s thin n ∙ e.is_late;
      is_kept = same_freed marks s thin n page ∙ e.is_kept;
      is_uncovered = same_looked marks s thin page n ∙ e.is_uncovered;
    },
    λ e. record {
      is_access = e.is_access;
      is_late = sym (same_home marks s thin n) ∙ e.is_late;
      is_kept = sym (same_freed marks s thin n page) ∙ e.is_kept;
      is_uncovered = sym (same_looked marks s thin page n) ∙ e.is_uncovered;
    },
  )

  guest_fault : (reason : PageReason) (n : ℕ) (x : GuestRec) → slice_get s.guest n ≡ Some x → ((page : ℕ) → guest_page x ≡ Some page → IsMisread s n page → ⊥) → GuestFault s reason n x ↔ GuestFault (thinned marks s) reason (rank marks n) x
  guest_fault WrongRead n (Read v p c value) is free = by_same (λ y. value ≢ y) (same_at_read marks s thin n v p c value (free p refl) is)
  guest_fault Early n x is free = (λ h. (h.0, (early_same n h.0 x).0 h.1), λ h. (h.0, (early_same n h.0 x).1 h.1))
  guest_fault WrongRead n x is free = (λ h. absurd h, λ h. absurd h)
  guest_fault reason n x is free = (λ h. absurd h, λ h. absurd h)

  source_fault : (reason : PageReason) (x : SourceRec) → ((page : ℕ) → source_page x ≡ Some page → IsMisread s (length s.guest) page → ⊥) → SourceFault s reason x ↔ SourceFault (thinned marks s) reason (thin_source marks x)
  source_fault Given (Send p content) free = by_same (λ b. b ≡ true) (same_ledger_at_halt marks s thin p (free p refl))
  source_fault Stale (Send p content) free = by_same (λ ys. content ≢ ys) (same_page_at_halt marks s thin p (free p refl))
  source_fault Given x free = (λ h. absurd h, λ h. absurd h)
  source_fault Stale x free = (λ h. absurd h, λ h. absurd h)
  source_fault reason x free = (λ h. absurd h, λ h. absurd h)

  over_fault : (page n : ℕ) → ((earlier (is_placement_of page) s.pager n ≡ false) × IsOver s page) ↔ ((earlier (is_placement_of page) (thinned marks s).pager n ≡ false) × IsOver (thinned marks s) page)
  over_fault page n = both_ways (by_same (λ b. b ≡ false) (same_placed marks s thin page n)) (over_to page, over_from page)

  pager_fault : (reason : PageReason) (n : ℕ) (x : PagerRec) → ((page : ℕ) → pager_page x ≡ Some page → IsMisread s (length s.guest) page → ⊥) → PagerFault s reason n x ↔ PagerFault (thinned marks s) reason n (thin_pager marks x)
  pager_fault Twice n (Place p got content) free = by_same (λ b. b ≡ true) (same_placed marks s thin p n)
  pager_fault Twice n (Zero p) free = by_same (λ b. b ≡ true) (same_placed marks s thin p n)
  pager_fault Altered n (Place p got content) free = by_same (λ ys. content ≢ ys) (same_page_at_halt marks s thin p (free p refl))
  pager_fault Unfit n (Zero p) free = by_same (λ b. b ≡ false) (same_ledger_at_halt marks s thin p (free p refl))
  pager_fault Over n (Place p got content) free = over_fault p n
  pager_fault Over n (Zero p) free = over_fault p n
  pager_fault Twice n x free = (λ h. absurd h, λ h. absurd h)
  pager_fault Altered n x free = (λ h. absurd h, λ h. absurd h)
  pager_fault Unfit n x free = (λ h. absurd h, λ h. absurd h)
  pager_fault Over n x free = (λ h. absurd h, λ h. absurd h)
  pager_fault reason n x free = (λ h. absurd h, λ h. absurd h)

  mapped : {A : Type 0} (f : A → A) (fault fault' : A → Type 0) (log : List A) (n : ℕ) → ((x : A) → slice_get log n ≡ Some x → fault x ↔ fault' (f x)) → if_fault fault (slice_get log n) ↔ if_fault fault' (slice_get (map f log) n)
  mapped {A} f fault fault' log n same = subst (λ o. if_fault fault (slice_get log n) ↔ if_fault fault' o) (sym (slice_get-map f log n)) (go (slice_get log n) refl)
    where
      go : (o : Option A) → slice_get log n ≡ o → if_fault fault o ↔ if_fault fault' (option_map f o)
      go None is = (λ h. h, λ h. h)
      go (Some x) is = same x is

  pub keeps_faults : KeepsFaults marks s
  keeps_faults reason (Guest, n) mark free = go (slice_get s.guest n) refl
    where
      go : (o : Option GuestRec) → slice_get s.guest n ≡ o → if_fault (GuestFault s reason n) o ↔ if_fault (GuestFault (thinned marks s) reason (rank marks n)) (slice_get (thinned marks s).guest (rank marks n))
      go None is = absurd (is_there marks s.guest (aligned marks s thin) n mark is)
      go (Some x) is =
          let unread : (page : ℕ) → guest_page x ≡ Some page → IsMisread s n page → ⊥ = λ page mine bad. free (record { page = page; is_of = ap (if_there guest_page) is ∙ mine; is_misread = bad }) in
          subst (λ o. GuestFault s reason n x ↔ if_fault (GuestFault (thinned marks s) reason (rank marks n)) o) (sym (kept_at marks s.guest n x is mark)) (guest_fault reason n x is unread)
  keeps_faults reason (Source, n) mark free =
      mapped (thin_source marks) (SourceFault s reason) (SourceFault (thinned marks s) reason) s.source n
      (λ x is. source_fault reason x (λ page mine bad. free (record { page = page; is_of = ap (if_there source_page) is ∙ mine; is_misread = bad })))
  keeps_faults reason (Link, n) mark free = (λ h. h, λ h. h)
  keeps_faults reason (Lane, n) mark free = (λ h. h, λ h. h)
  keeps_faults reason (Pager, n) mark free =
      mapped (thin_pager marks) (PagerFault s reason n) (PagerFault (thinned marks s) reason n) s.pager n
      (λ x is. pager_fault reason n x (λ page mine bad. free (record { page = page; is_of = ap (if_there pager_page) is ∙ mine; is_misread = bad })))
