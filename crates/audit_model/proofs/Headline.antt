-- What a right certificate means, in every merging.
use Rattle.std.proofs.Common.{◌≡◌, ℕ, ◌<◌, true, false, List, Some, sym, ap, ◌∙◌, subst, arith, eqb-true}
use Rattle.std.specs.Prelude.{slice_get}
use Rattle.migration_types.specs.declared.records.LogName.TheVariants.{Guest, Pager}
use Rattle.migration_types.specs.declared.records.GuestRec.{GuestRec}
use Rattle.migration_types.specs.declared.records.GuestRec.TheVariants.{Read, Write, Release, Miss, Halt, Resume, See}
use Rattle.migration_types.specs.declared.records.SourceRec.TheVariants.{Send}
use Rattle.migration_types.specs.declared.records.PagerRec.{PagerRec}
use Rattle.migration_types.specs.declared.records.PagerRec.TheVariants.{Got, Pull, Ready, Fault, Join, Want, Place, Zero, Skip, All}
use Rattle.migration_types.specs.Sessions.{Recorded}
use Rattle.migration_types.specs.Certs.{Certified}
use Rattle.migration_types.specs.Receipts.{Name}
use Rattle.audit_model.specs.Mergings.{IsMerging, HasMerging, spelled}
use Rattle.audit_model.specs.Flat.{in_ledger, AtTarget, home, at_halt}
use Rattle.audit_model.specs.World.{World, world_after, guest_demand, pager_demand, if_record, IsSafe}
use Rattle.audit_model.specs.Shape.{is_placement_of}
use Rattle.audit_model.specs.Certificates.{is_access_of}
use Rattle.audit_model.specs.Laws.{IsCertified, GuestAt, PagerAt, FindsResident, ReadsFlat, PlacedOnce, PlacedUntouched, ReleasedAsZeros, IsMigrated}
use Rattle.audit_model.specs.Worlds.{TargetIsFlat}
use Rattle.audit_model.proofs.Consistent.{there}
use Rattle.audit_model.specs.Fitting.{Fits}
use Rattle.audit_model.proofs.Fits.{session_fits, source_fits, pager_fits}
use Rattle.audit_model.proofs.Entries.{IsKept, kept_from, placed_owed}
use Rattle.audit_model.proofs.Orders.{is_at}
use Rattle.audit_model.proofs.Safe.{safe_if_kept, target_if_kept}

module _ (s : Recorded) (c : Certified) (given : IsCertified s c) where
  fits : Fits s
  fits = session_fits s given.is_session

  kept : (page : ℕ) → page < s.geometry.pages → IsKept s page
  kept page small =
      let entry = there c.entries page s.geometry.pages small (omega (arith, given.certificate.pages)) in
      kept_from s page entry.0 (given.certificate.entries page entry.0 entry.1)

  pub certified_safe : IsSafe s
  certified_safe = safe_if_kept s given.shape fits kept

  pub certified_target_is_flat : TargetIsFlat s
  certified_target_is_flat = target_if_kept s given.shape fits kept

  placed_page_small : (n : ℕ) (r : PagerRec) → slice_get s.pager n ≡ Some r → (page : ℕ) → is_placement_of page r ≡ true → page < s.geometry.pages
  placed_page_small n (Place q got content) is page e = let same : q ≡ page = eqb-true q page e in let lt = (pager_fits s fits n (Place q got content) is).0 in subst (λ k. k < s.geometry.pages) same lt
  placed_page_small n (Zero q) is page e = let same : q ≡ page = eqb-true q page e in let lt = (pager_fits s fits n (Zero q) is).0 in subst (λ k. k < s.geometry.pages) same lt
  placed_page_small n (Got k) is page e = absurd (cc)
  placed_page_small n (Pull k) is page e = absurd (cc)
  placed_page_small n Ready is page e = absurd (cc)
  placed_page_small n (Fault k) is page e = absurd (cc)
  placed_page_small n (Join k) is page e = absurd (cc)
  placed_page_small n (Want k) is page e = absurd (cc)
  placed_page_small n (Skip k) is page e = absurd (cc)
  placed_page_small n All is page e = absurd (cc)

  pub certified_has_merging : HasMerging s
  certified_has_merging = (spelled c.runs, given.certificate.merging)

  guest_demand_at : (order : List Name) → IsMerging s order → (n : ℕ) (r : GuestRec) (w : World) → GuestAt s order n r w → guest_demand s n r w
  guest_demand_at order m n r w at =
      let d = certified_safe order m at.earlier (Guest, n) at.stands in
      subst (λ u. guest_demand s n r u) (sym at.world) (subst (λ o. if_record (guest_demand s n) o (world_after s at.earlier)) at.is d)

  pager_demand_at : (order : List Name) → IsMerging s order → (n : ℕ) (r : PagerRec) (w : World) → PagerAt s order n r w → pager_demand s r w
  pager_demand_at order m n r w at =
      let d = certified_safe order m at.earlier (Pager, n) at.stands in
      subst (λ u. pager_demand s r u) (sym at.world) (subst (λ o. if_record (pager_demand s) o (world_after s at.earlier)) at.is d)

  pub certified_reads_flat : ReadsFlat s
  certified_reads_flat order m n v page cell value w at =
      let d = guest_demand_at order m n (Read v page cell value) w at in
      (d.is_the_cell, d.is_flat)

  pub certified_placed_once : PlacedOnce s
  certified_placed_once page n m r t is js e f = (kept page (placed_page_small n r is page e)).once n m r t is js e f

  pub certified_placed_untouched : PlacedUntouched s
  certified_placed_untouched order m n page (Place q got content) w at e =
      let d = pager_demand_at order m n (Place q got content) w at in
      let same : q ≡ page = eqb-true q page e in subst (λ k. w.touched k ≡ false) same d.is_untouched
  certified_placed_untouched order m n page (Zero q) w at e =
      let d = pager_demand_at order m n (Zero q) w at in
      let same : q ≡ page = eqb-true q page e in subst (λ k. w.touched k ≡ false) same d.is_untouched
  certified_placed_untouched order m n page (Got k) w at e = absurd (cc)
  certified_placed_untouched order m n page (Pull k) w at e = absurd (cc)
  certified_placed_untouched order m n page Ready w at e = absurd (cc)
  certified_placed_untouched order m n page (Fault k) w at e = absurd (cc)
  certified_placed_untouched order m n page (Join k) w at e = absurd (cc)
  certified_placed_untouched order m n page (Want k) w at e = absurd (cc)
  certified_placed_untouched order m n page (Skip k) w at e = absurd (cc)
  certified_placed_untouched order m n page All w at e = absurd (cc)

  pub certified_released_as_zeros : ReleasedAsZeros s
  certified_released_as_zeros = record {
    unsent = λ page n content released is.
        let honest = (kept page (source_fits s fits n (Send page content) is).0).honest in
        let owed = honest.owed n content is in cc;
    zeroed = zeroed;
  }
    where
      zeroed : (page n : ℕ) (r : PagerRec) → in_ledger s (at_halt s) page ≡ true → slice_get s.pager n ≡ Some r → is_placement_of page r ≡ true → r ≡ Zero page
      zeroed page n (Place q got content) released is e =
          let same : q ≡ page = eqb-true q page e in
          let at : slice_get s.pager n ≡ Some (Place page got content) = is ∙ ap (λ k. Some (Place k got content)) same in
          let small = (pager_fits s fits n (Place page got content) at).0 in
          let entry = there c.entries page s.geometry.pages small (omega (arith, given.certificate.pages)) in
          let owed = placed_owed s page entry.0 (given.certificate.entries page entry.0 entry.1) n got content at in
          absurd (cc)
      zeroed page n (Zero q) released is e = ap (λ k. Zero k) (eqb-true q page e)
      zeroed page n (Got k) released is e = absurd (cc)
      zeroed page n (Pull k) released is e = absurd (cc)
      zeroed page n Ready released is e = absurd (cc)
      zeroed page n (Fault k) released is e = absurd (cc)
      zeroed page n (Join k) released is e = absurd (cc)
      zeroed page n (Want k) released is e = absurd (cc)
      zeroed page n (Skip k) released is e = absurd (cc)
      zeroed page n All released is e = absurd (cc)

  pub certified_finds_resident : FindsResident s
  certified_finds_resident order m n page r w at access late =
      let e = is_at s given.shape order m at.earlier (Guest, n) at.stands in
      let there : w.home ≡ AtTarget = ap (λ (u : World). u.home) at.world ∙ e.0.world.home_is ∙ ap (λ k. home s k) (sym e.1.is_next) ∙ late in
      go r access (guest_demand_at order m n r w at) there
    where
      go : (r : GuestRec) → is_access_of page r ≡ true → guest_demand s n r w → w.home ≡ AtTarget → w.resident page ≡ true
      go (Read v q c x) access d there = let same : q ≡ page = eqb-true q page access in subst (λ k. w.resident k ≡ true) same (d.is_resident there)
      go (Write v q c x) access d there = let same : q ≡ page = eqb-true q page access in subst (λ k. w.resident k ≡ true) same (d.is_resident there)
      go (Release v q) access d there = absurd (cc)
      go (Miss v q) access d there = absurd (cc)
      go Halt access d there = absurd (cc)
      go (Resume k) access d there = absurd (cc)
      go (See k) access d there = absurd (cc)

  pub certified_is_migrated : IsMigrated s
  certified_is_migrated = record {
    safe = certified_safe;
    has_merging = certified_has_merging;
    finds_resident = certified_finds_resident;
    reads_flat = certified_reads_flat;
    placed_once = certified_placed_once;
    placed_untouched = certified_placed_untouched;
    released_as_zeros = certified_released_as_zeros;
  }
