-- A page's first fault stands no later than its first fault in logs that are cut to a front.
use Rattle.std.proofs.Common.{◌≡◌, ℕ, ◌<◌, ◌⊎◌, inl, inr, Some, sym, ap, ◌∙◌, subst}
use Rattle.std.proofs.lemmas.Bool.{cases_order}
use Rattle.migration_types.specs.Receipts.{Name, log_index}
use Rattle.migration_types.specs.Sessions.{Recorded}
use Rattle.audit_model.specs.Mergings.{Cursors}
use Rattle.page_facts.specs.declared.page_fault.PageFault.{PageFault}
use Rattle.page_facts.specs.PageFaults.{page_at, Precedes, IsLeastReason, IsFirstFault}
use Rattle.page_facts.proofs.FirstOfAll.{one_least}
use Rattle.kept_faults.specs.FrontLaws.{IsInFront, HasHalt, HasStill, IsNoLater, FirstFaultsAreLater}
use Rattle.recorder_files.specs.Fronts.{IsFront, cut_to}
use Rattle.kept_faults.proofs.FrontFaults.{faults_were}
use Rattle.kept_faults.proofs.FrontFirst.{same_log_by, same_page, page_was, reason_was}
use Rattle.kept_faults.proofs.Found.{has_first}

module _ (s : Recorded) (c : Cursors) (front : IsFront s c) (halt : HasHalt s c) where
  is_no_later : (page : ℕ) (f first : PageFault) → IsFirstFault (cut_to c s) page f → IsFirstFault s page first → IsNoLater s c f first
  is_no_later page f first cut_first whole_first =
      by (cases_order (log_index first.log) (log_index f.log)) (cases_order first.place f.place)
    where
      was : IsInFront c (f.log, f.place) × (page_at s (f.log, f.place) ≡ Some f.page)
      was = page_was s c (f.log, f.place) f.page cut_first.is_of

      reason : IsLeastReason s (f.log, f.place) f.reason
      reason = reason_was s c front halt (f.log, f.place) f.reason was.0 cut_first.is_reason

      not_after : {A : Type 0} → Precedes (f.log, f.place) (first.log, first.place) → A
      not_after before = absurd (whole_first.is_first f.page (f.log, f.place) cut_first.is_among was.1 before f.reason reason.is_fault)

      lacks : Precedes (first.log, first.place) (f.log, f.place) → HasStill s c first → ⊥
      lacks before still =
          let inside = (faults_were s c front halt first.reason (first.log, first.place) still).0 in
          cut_first.is_first first.page (first.log, first.place) whole_first.is_among (same_page s c (first.log, first.place) inside ∙ whole_first.is_of) before first.reason still

      before_it : Precedes (first.log, first.place) (f.log, f.place) → IsNoLater s c f first
      before_it before = inr (before, lacks before)

      by : (log_index first.log ≡ log_index f.log) ⊎ ((log_index first.log < log_index f.log) ⊎ (log_index f.log < log_index first.log)) →
          (first.place ≡ f.place) ⊎ ((first.place < f.place) ⊎ (f.place < first.place)) →
          IsNoLater s c f first
      by (inr (inl lt)) places = before_it (inl lt)
      by (inr (inr gt)) places = not_after (inl gt)
      by (inl e) (inr (inl lt)) = before_it (inr (e, lt))
      by (inl e) (inr (inr gt)) = not_after (inr (sym e, gt))
      by (inl e) (inl g) =
          let l : f.log ≡ first.log = same_log_by f.log first.log (sym e) in
          let n : f.place ≡ first.place = sym g in
          let at : Path Name (f.log, f.place) (first.log, first.place) = λ j. (l j, n j) in
          let r = one_least s (first.log, first.place) f.reason first.reason (subst (λ (name : Name). IsLeastReason s name f.reason) at reason) whole_first.is_reason in
          let p : f.page ≡ first.page = cut_first.is_among ∙ sym whole_first.is_among in
          inl (λ j. record { page = p j; log = l j; place = n j; reason = r j })

  pub first_faults_are_later : FirstFaultsAreLater s c
  first_faults_are_later page f first =
      let was = page_was s c (f.log, f.place) f.page first.is_of in
      let found = has_first s page (f.log, f.place) f.reason (was.1 ∙ ap (λ (q : ℕ). Some q) first.is_among) (reason_was s c front halt (f.log, f.place) f.reason was.0 first.is_reason).is_fault in
      record { first = found.0; is_first = found.1; is_no_later = is_no_later page f found.0 first found.1 }
