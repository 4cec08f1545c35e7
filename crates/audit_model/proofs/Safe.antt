-- A session of the right shape whose pages have right entries is safe.
use Rattle.std.proofs.Common.{◌≡◌, ◌≢◌, ℕ, zero, suc, ◌<◌, ◌≤◌, Bool, true, false, ◌||◌, ◌⊎◌, inl, inr, length, Option, Some, None, refl, sym, ap, ◌∙◌, subst, arith, eqb-true}
use Rattle.std.specs.Prelude.{slice_get}
use Rattle.std.proofs.lemmas.Bool.{cases_lt, or_cases, or_right}
use Rattle.migration_types.specs.declared.records.LogName.TheVariants.{Guest, Source, Link, Lane, Pager}
use Rattle.migration_types.specs.declared.records.GuestRec.{GuestRec}
use Rattle.migration_types.specs.declared.records.GuestRec.TheVariants.{Read, Write, Release, Miss, Halt, Resume, See}
use Rattle.migration_types.specs.declared.records.SourceRec.{SourceRec}
use Rattle.migration_types.specs.declared.records.SourceRec.TheVariants.{Halted, State, Send, Again, Ask, Done, Back}
use Rattle.migration_types.specs.declared.records.PagerRec.{PagerRec}
use Rattle.migration_types.specs.declared.records.PagerRec.TheVariants.{Got, Pull, Ready, Fault, Join, Want, Place, Zero, Skip, All}
use Rattle.migration_types.specs.Sessions.{Recorded}
use Rattle.migration_types.specs.Receipts.{Name}
use Rattle.audit_model.specs.Fitting.{Fits}
use Rattle.audit_model.specs.Mergings.{Cursors}
use Rattle.audit_model.specs.Flat.{freed, changed, flat, Home, AtSource, Nowhere, AtTarget, home, at_halt}
use Rattle.audit_model.specs.World.{World, step, memory_at, Demand, guest_demand, source_demand, pager_demand, if_record, IsSafe}
use Rattle.audit_model.specs.Shape.{IsRightShape, is_placement_of, earlier}
use Rattle.audit_model.specs.Certificates.{is_access_of, IsLateTouch}
use Rattle.audit_model.specs.Walks.{next, MayFollow}
use Rattle.audit_model.proofs.History.{earlier_true, home_at_read, home_at_write}
use Rattle.audit_model.specs.Worlds.{come_to, touched, placed_before, resident_before, IsConsistentCut, IsAt, TargetIsFlat}
use Rattle.audit_model.proofs.Touched.{access_touches, freed_true, left_if_freed, touched_access}
use Rattle.audit_model.proofs.Consistent.{seen, there}
use Rattle.audit_model.proofs.Fits.{guest_fits, source_fits, pager_fits}
use Rattle.audit_model.proofs.Entries.{IsFreedFirst, HasLook, IsKept, itself}
use Rattle.audit_model.proofs.Worlds.{IsFlatAtTarget, start_is_flat, guest_keeps_flat, pager_keeps_flat}
use Rattle.audit_model.proofs.Orders.{kept_at, start_is_at, left_if_placed, page_at_halt, ledger_at_halt, source_left, pager_left, guest_stepped, pager_stepped, step_kept, kept_after}

-- besides, the target is flat on the resident pages
pub record IsFlatAt (s : Recorded) (c : Cursors) (w : World) : Type 0 where
  pub at : IsAt s c w
  pub flat_target : IsFlatAtTarget s (c Guest) (c Pager) w

module _ (s : Recorded) (shape : IsRightShape s) (fits : Fits s) (kept : (page : ℕ) → page < s.geometry.pages → IsKept s page) where
  -- a page that is resident, by the cursors
  left_if_resident : (c : Cursors) → IsConsistentCut s c → (q : ℕ) → resident_before s (c Guest) (c Pager) q ≡ true → home s (c Guest) ≢ AtSource
  left_if_resident c cut q e = go (or_cases _ _ e)
    where
      go : (placed_before s (c Pager) q ≡ true) ⊎ (freed s (c Guest) q ≡ true) → home s (c Guest) ≢ AtSource
      go (inl e) = left_if_placed s shape c cut q e
      go (inr e) = left_if_freed s (c Guest) q e

  -- a read or a write after handover finds its page resident
  access_resident : (c : Cursors) → IsConsistentCut s c → (q : ℕ) → q < s.geometry.pages → (r : GuestRec) → slice_get s.guest (c Guest) ≡ Some r → is_access_of q r ≡ true → home s (c Guest) ≡ AtTarget → resident_before s (c Guest) (c Pager) q ≡ true
  access_resident c cut q small r is access late = go ((kept q small).looks (c Guest) touch)
    where
      touch : IsLateTouch s q (c Guest)
      touch = record { by = r; stands = is; is_touch = access_touches q r access; is_late = late }

      go : HasLook s q (c Guest) ⊎ IsFreedFirst s q → resident_before s (c Guest) (c Pager) q ≡ true
      go (inl look) =
          let k : look.placement < (c Pager) = seen s shape c cut look.see look.placement look.sees look.is_earlier in
          ap (λ b. b || freed s (c Guest) q) (earlier_true (is_placement_of q) s.pager look.place (c Pager) look.by look.stands look.places (omega (arith, look.covers)))
      go (inr f) = or_right _ _ (freed_true s f.0 (c Guest) f.1.vcpu q f.1.is_release f.1.is_late (itself q) (before (cases_lt f.0 (c Guest))))
        where
          before : (f.0 < c Guest) ⊎ (c Guest ≤ f.0) → f.0 < c Guest
          before (inl lt) = lt
          before (inr le) =
              let same : f.0 ≡ c Guest = omega (arith, f.1.is_first (c Guest) touch) in
              let e : Some r ≡ Some (Release f.1.vcpu q) = sym is ∙ ap (λ k. slice_get s.guest k) (sym same) ∙ f.1.is_release in
              let g : r ≡ Release f.1.vcpu q = cc in
              let h = ap (λ t. is_access_of q t) g in
              absurd (cc)

  -- at its placement a page is untouched
  placement_untouched : (c : Cursors) → IsConsistentCut s c → (q : ℕ) → q < s.geometry.pages → (r : PagerRec) → slice_get s.pager (c Pager) ≡ Some r → is_placement_of q r ≡ true → touched s (c Guest) q ≡ false
  placement_untouched c cut q small r is places = go (touched s (c Guest) q) refl
    where
      look_at : (m : ℕ) → m < (c Guest) → HasLook s q m ⊎ IsFreedFirst s q → ⊥
      look_at m lt (inl look) =
          let same : look.place ≡ (c Pager) = (kept q small).once look.place (c Pager) look.by r look.stands is look.places places in
          let k : look.placement < (c Pager) = seen s shape c cut look.see look.placement look.sees (omega (arith, look.is_earlier)) in
          absurd (omega (arith, look.covers))
      look_at m lt (inr f) = let g = f.1.unplaced (c Pager) r is in cc

      go : (b : Bool) → touched s (c Guest) q ≡ b → b ≡ false
      go false e = refl
      go true e = let t = touched_access s (c Guest) q e in absurd (look_at t.0 t.1 ((kept q small).looks t.0 t.2))

  -- and not yet placed
  placement_new : (n q : ℕ) → q < s.geometry.pages → (r : PagerRec) → slice_get s.pager n ≡ Some r → is_placement_of q r ≡ true → (m : ℕ) → m ≤ n → placed_before s m q ≡ false
  placement_new n q small r is places zero le = refl
  placement_new n q small r is places (suc m) le = go (placement_new n q small r is places m (omega arith)) (slice_get s.pager m) refl
    where
      other : (t : PagerRec) → slice_get s.pager m ≡ Some t → (b : Bool) → is_placement_of q t ≡ b → placed_before s m q ≡ false → (b || placed_before s m q) ≡ false
      other t at true e f = absurd (omega (arith, (kept q small).once m n t r at is e places))
      other t at false e f = f

      go : placed_before s m q ≡ false → (o : Option PagerRec) → slice_get s.pager m ≡ o → changed (λ x found. is_placement_of q x || found) o (placed_before s m q) ≡ false
      go f None at = f
      go f (Some t) at = other t at (is_placement_of q t) refl f

  guest_demand_holds : (c : Cursors) (w : World) → IsFlatAt s c w → (r : GuestRec) → slice_get s.guest (c Guest) ≡ Some r → guest_demand s (c Guest) r w
  guest_demand_holds c w i (Read v q d x) is =
      let n = (c Guest) in
      let fit = guest_fits s fits n (Read v q d x) is in
      let placed : home s n ≡ AtTarget → resident_before s n (c Pager) q ≡ true = λ e. access_resident c i.at.cut q fit.1.0 (Read v q d x) is (itself q) e in
      let answer = (kept q fit.1.0).honest.reads n v d x is in
      record {
        is_somewhere = λ e. home_at_read s shape n v q d x is (sym i.at.world.home_is ∙ e);
        is_resident = λ e. i.at.world.resident_is q ∙ placed (sym i.at.world.home_is ∙ e);
        is_the_cell = answer ∙ cell fit.1.1.0 placed (home s n) refl;
        is_flat = answer;
      }
    where
      cell : d < s.geometry.cells → (home s (c Guest) ≡ AtTarget → resident_before s (c Guest) (c Pager) q ≡ true) → (h : Home) → home s (c Guest) ≡ h → flat s (c Guest) q d ≡ memory_at w.home w q d
      cell lt placed AtSource at = ap (λ k. flat s (come_to k (c Guest) (at_halt s)) q d) (sym at) ∙ sym (i.at.world.source_is q d) ∙ ap (λ k. memory_at k w q d) (sym (i.at.world.home_is ∙ at))
      cell lt placed Nowhere at = absurd (home_at_read s shape (c Guest) v q d x is at)
      cell lt placed AtTarget at = sym (i.flat_target q d lt (placed at)) ∙ ap (λ k. memory_at k w q d) (sym (i.at.world.home_is ∙ at))
  guest_demand_holds c w i (Write v q d x) is =
      let n = (c Guest) in
      let fit = guest_fits s fits n (Write v q d x) is in
      record {
        is_somewhere = λ e. home_at_write s shape n v q d x is (sym i.at.world.home_is ∙ e);
        is_resident = λ e. i.at.world.resident_is q ∙ access_resident c i.at.cut q fit.1.0 (Write v q d x) is (itself q) (sym i.at.world.home_is ∙ e);
      }
  guest_demand_holds c w i (Release v q) is = tt
  guest_demand_holds c w i (Miss v q) is = tt
  guest_demand_holds c w i Halt is = tt
  guest_demand_holds c w i (Resume k) is = tt
  guest_demand_holds c w i (See k) is = tt

  source_demand_holds : (c : Cursors) (w : World) → IsFlatAt s c w → home s (c Guest) ≢ AtSource → (n : ℕ) (r : SourceRec) → slice_get s.source n ≡ Some r → source_demand s r w
  source_demand_holds c w i left n (Send q content) is =
      let honest = (kept q (source_fits s fits n (Send q content) is).0).honest in
      record {
        has_left = λ e. left (sym i.at.world.home_is ∙ e);
        is_the_page = honest.sends n content is ∙ page_at_halt s shape c w i.at left q;
        is_owed = ledger_at_halt s shape c w i.at left q ∙ honest.owed n content is;
      }
  source_demand_holds c w i left n (Halted k) is = tt
  source_demand_holds c w i left n State is = tt
  source_demand_holds c w i left n (Again k) is = tt
  source_demand_holds c w i left n (Ask k) is = tt
  source_demand_holds c w i left n Done is = tt
  source_demand_holds c w i left n Back is = tt

  pager_demand_holds : (c : Cursors) (w : World) → IsFlatAt s c w → home s (c Guest) ≢ AtSource → (r : PagerRec) → slice_get s.pager (c Pager) ≡ Some r → pager_demand s r w
  pager_demand_holds c w i left (Place q got content) is =
      let small = (pager_fits s fits (c Pager) (Place q got content) is).0 in
      record {
        is_new = i.at.world.placed_is q ∙ placement_new (c Pager) q small (Place q got content) is (itself q) (c Pager) (omega arith);
        is_untouched = i.at.world.touched_is q ∙ placement_untouched c i.at.cut q small (Place q got content) is (itself q);
        is_the_page = (kept q small).placed_flat (c Pager) got content is ∙ page_at_halt s shape c w i.at left q;
      }
  pager_demand_holds c w i left (Zero q) is =
      let small = (pager_fits s fits (c Pager) (Zero q) is).0 in
      record {
        is_new = i.at.world.placed_is q ∙ placement_new (c Pager) q small (Zero q) is (itself q) (c Pager) (omega arith);
        is_untouched = i.at.world.touched_is q ∙ placement_untouched c i.at.cut q small (Zero q) is (itself q);
        is_released = ledger_at_halt s shape c w i.at left q ∙ (kept q small).zeroed_released (c Pager) is;
      }
  pager_demand_holds c w i left (Got k) is = tt
  pager_demand_holds c w i left (Pull k) is = tt
  pager_demand_holds c w i left Ready is = tt
  pager_demand_holds c w i left (Fault k) is = tt
  pager_demand_holds c w i left (Join k) is = tt
  pager_demand_holds c w i left (Want k) is = tt
  pager_demand_holds c w i left (Skip k) is = tt
  pager_demand_holds c w i left All is = tt

  demand_holds : (c : Cursors) (w : World) (name : Name) → IsFlatAt s c w → MayFollow s c name → Demand s name w
  demand_holds c w (Guest, n) i may = subst (λ k. Demand s (Guest, k) w) (sym may.is_next) (go (slice_get s.guest (c Guest)) refl)
    where
      go : (o : Option GuestRec) → slice_get s.guest (c Guest) ≡ o → if_record (guest_demand s (c Guest)) o w
      go None is = tt
      go (Some r) is = guest_demand_holds c w i r is
  demand_holds c w (Source, n) i may = go (slice_get s.source n) refl
    where
      go : (o : Option SourceRec) → slice_get s.source n ≡ o → if_record (source_demand s) o w
      go None is = tt
      go (Some r) is = source_demand_holds c w i (source_left s shape c (Source, n) i.at.cut may refl) n r is
  demand_holds c w (Link, n) i may = tt
  demand_holds c w (Lane, n) i may = tt
  demand_holds c w (Pager, n) i may = subst (λ k. Demand s (Pager, k) w) (sym may.is_next) (go (slice_get s.pager (c Pager)) refl)
    where
      go : (o : Option PagerRec) → slice_get s.pager (c Pager) ≡ o → if_record (pager_demand s) o w
      go None is = tt
      go (Some r) is = pager_demand_holds c w i (pager_left s shape c (Pager, n) i.at.cut may refl) r is

  placement_page_small : (n : ℕ) (r : PagerRec) → slice_get s.pager n ≡ Some r → (a : ℕ) → is_placement_of a r ≡ true → a < s.geometry.pages
  placement_page_small n (Place q got content) is a e = let same : q ≡ a = eqb-true q a e in let lt = (pager_fits s fits n (Place q got content) is).0 in subst (λ k. k < s.geometry.pages) same lt
  placement_page_small n (Zero q) is a e = let same : q ≡ a = eqb-true q a e in let lt = (pager_fits s fits n (Zero q) is).0 in subst (λ k. k < s.geometry.pages) same lt
  placement_page_small n (Got k) is a e = absurd (cc)
  placement_page_small n (Pull k) is a e = absurd (cc)
  placement_page_small n Ready is a e = absurd (cc)
  placement_page_small n (Fault k) is a e = absurd (cc)
  placement_page_small n (Join k) is a e = absurd (cc)
  placement_page_small n (Want k) is a e = absurd (cc)
  placement_page_small n (Skip k) is a e = absurd (cc)
  placement_page_small n All is a e = absurd (cc)

  guest_step_flat : (c : Cursors) (w : World) → IsFlatAt s c w → (r : GuestRec) → slice_get s.guest (c Guest) ≡ Some r → IsFlatAtTarget s (suc (c Guest)) (c Pager) (step s (Guest, (c Guest)) w)
  guest_step_flat c w i r is =
      subst (λ u. IsFlatAtTarget s (suc (c Guest)) (c Pager) u) (guest_stepped s shape c w i.at r is)
      (guest_keeps_flat s shape (c Guest) (c Pager) (home s (c Guest)) w r is refl (left_if_resident c i.at.cut) resident i.flat_target)
    where
      resident : (v q d x : ℕ) → r ≡ Write v q d x → home s (c Guest) ≡ AtTarget → w.resident q ≡ true
      resident v q d x e at =
          let write : slice_get s.guest (c Guest) ≡ Some (Write v q d x) = is ∙ ap (λ t. Some t) e in
          let fit = guest_fits s fits (c Guest) (Write v q d x) write in
          i.at.world.resident_is q ∙ access_resident c i.at.cut q fit.1.0 (Write v q d x) write (itself q) at

  pager_step_flat : (c : Cursors) (w : World) → IsFlatAt s c w → home s (c Guest) ≢ AtSource → (r : PagerRec) → slice_get s.pager (c Pager) ≡ Some r → IsFlatAtTarget s (c Guest) (suc (c Pager)) (step s (Pager, (c Pager)) w)
  pager_step_flat c w i left r is =
      let when : (t : PagerRec) → r ≡ t → slice_get s.pager (c Pager) ≡ Some t = λ t e. is ∙ ap (λ u. Some u) e in
      subst (λ u. IsFlatAtTarget s (c Guest) (suc (c Pager)) u) (pager_stepped s shape c w r is)
      (pager_keeps_flat s shape (c Guest) (c Pager) (home s (c Guest)) w r is refl left
      (λ a got content e. (kept a (placement_page_small (c Pager) (Place a got content) (when _ e) a (itself a))).placed_flat (c Pager) got content (when _ e))
      (λ a e. (kept a (placement_page_small (c Pager) (Zero a) (when _ e) a (itself a))).zeroed_released (c Pager) (when _ e))
      (λ a e. placement_untouched c i.at.cut a (placement_page_small (c Pager) r is a e) r is e) i.flat_target)

  step_flat : (c : Cursors) (w : World) (name : Name) → IsFlatAt s c w → MayFollow s c name → IsFlatAt s (next c name.0) (step s name w)
  step_flat c w (Guest, n) i may =
      let r = there s.guest (c Guest) (length s.guest) (omega (arith, may.is_next, may.is_there)) (omega arith) in
      record {
        at = step_kept s shape c w (Guest, n) i.at may;
        flat_target = subst (λ k. IsFlatAtTarget s (suc (c Guest)) (c Pager) (step s (Guest, k) w)) (sym may.is_next) (guest_step_flat c w i r.0 r.1);
      }
  step_flat c w (Source, n) i may = record { at = step_kept s shape c w (Source, n) i.at may; flat_target = i.flat_target }
  step_flat c w (Link, n) i may = record { at = step_kept s shape c w (Link, n) i.at may; flat_target = i.flat_target }
  step_flat c w (Lane, n) i may = record { at = step_kept s shape c w (Lane, n) i.at may; flat_target = i.flat_target }
  step_flat c w (Pager, n) i may =
      let r = there s.pager (c Pager) (length s.pager) (omega (arith, may.is_next, may.is_there)) (omega arith) in
      record {
        at = step_kept s shape c w (Pager, n) i.at may;
        flat_target = subst (λ k. IsFlatAtTarget s (c Guest) (suc (c Pager)) (step s (Pager, k) w)) (sym may.is_next) (pager_step_flat c w i (pager_left s shape c (Pager, n) i.at.cut may refl) r.0 r.1);
      }

  pub safe_if_kept : IsSafe s
  safe_if_kept order merging earlier name stands =
      let r = kept_at s (λ c w. IsFlatAt s c w) (record { at = start_is_at s; flat_target = start_is_flat s }) step_flat order merging earlier name stands in
      demand_holds _ _ name r.0 r.1

  pub target_if_kept : TargetIsFlat s
  target_if_kept order merging past rest split page cell lt resident =
      let i = kept_after s (λ c w. IsFlatAt s c w) (record { at = start_is_at s; flat_target = start_is_flat s }) step_flat order merging past rest split in
      i.flat_target page cell lt (sym (i.at.world.resident_is page) ∙ resident)
