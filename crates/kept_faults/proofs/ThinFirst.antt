-- Each page's first fault with thinned logs.
use Rattle.std.proofs.Common.{◌≡◌, ◌↔◌, ℕ, ◌<◌, ◌⊎◌, inl, inr, Bool, true, false, List, Some, refl, sym, ap, ◌∙◌, subst}
use Rattle.std.specs.Prelude.{slice_get}
use Rattle.migration_types.specs.declared.records.LogName.TheVariants.{Guest}
use Rattle.migration_types.specs.Receipts.{Name}
use Rattle.migration_types.specs.Sessions.{Recorded}
use Rattle.audit_model.specs.declared.reasons.PageReason.{PageReason}
use Rattle.audit_model.specs.declared.reasons.PageReason.TheVariants.{Read as WrongRead}
use Rattle.audit_model.specs.Faults.{IsPageFault}
use Rattle.page_facts.specs.declared.page_fault.PageFault.{PageFault}
use Rattle.page_facts.specs.PageFaults.{page_at, Precedes, IsFaultless, IsLeastReason, IsClean, IsFirstFault}
use Rattle.page_facts.proofs.Lines.{passes_on}
use Rattle.kept_faults.specs.Thinned.{thinned, thin_name, IsKept, IsThinning}
use Rattle.kept_faults.specs.ThinLaws.{WasMisread, thin_fault, KeepsFirstFaults, FirstFaultsWere}
use Rattle.kept_faults.proofs.ThinFaults.{keeps_faults}
use Rattle.kept_faults.proofs.ThinLater.{faults_are_later}
use Rattle.kept_faults.proofs.Misread.{misread_shows}
use Rattle.kept_faults.proofs.Names.{same_log, renamed, Goes, precedes_to, precedes_from, same_page, stays_or_goes, was_kept}

-- where two records have the same faults, what is so of one's is so of the other's
module _ (s t : Recorded) (one other : Name) (same : (r : PageReason) → IsPageFault s r one ↔ IsPageFault t r other) where
  none_too : IsFaultless s one → IsFaultless t other
  none_too none r f = none r ((same r).1 f)

  least_too : (r : PageReason) → IsLeastReason s one r → IsLeastReason t other r
  least_too r is = record { is_fault = (same r).0 is.is_fault; is_least = λ u f. is.is_least u ((same u).1 f) }

module _ (marks : List Bool) (s : Recorded) (thin : IsThinning marks s) where
  -- a kept record has its faults
  module _ (name : Name) (kept : IsKept marks name) (free : WasMisread s name → ⊥) where
    same : (r : PageReason) → IsPageFault s r name ↔ IsPageFault (thinned marks s) r (thin_name marks name)
    same r = keeps_faults marks s thin r name kept free

    none_to : IsFaultless s name → IsFaultless (thinned marks s) (thin_name marks name)
    none_to = none_too s (thinned marks s) name (thin_name marks name) same

    none_from : IsFaultless (thinned marks s) (thin_name marks name) → IsFaultless s name
    none_from = none_too (thinned marks s) s (thin_name marks name) name (λ r. ((same r).1, (same r).0))

    least_to : (r : PageReason) → IsLeastReason s name r → IsLeastReason (thinned marks s) (thin_name marks name) r
    least_to = least_too s (thinned marks s) name (thin_name marks name) same

    least_from : (r : PageReason) → IsLeastReason (thinned marks s) (thin_name marks name) r → IsLeastReason s name r
    least_from = least_too (thinned marks s) s (thin_name marks name) name (λ r. ((same r).1, (same r).0))

  -- where the kept records of a page before a place are clean, so is one that goes there
  clean_gone : (n page : ℕ) → slice_get marks n ≡ Some false → page_at s (Guest, n) ≡ Some page →
      ((k : ℕ) → k < n → slice_get marks k ≡ Some true → page_at s (Guest, k) ≡ Some page → IsFaultless s (Guest, k)) → IsFaultless s (Guest, n)
  clean_gone n page gone mine clean r fault =
      let f = faults_are_later marks s thin r n page gone mine fault in
      clean f.place f.is_earlier f.is_kept f.is_of f.reason f.is_fault

  -- where no record of a page before a place has a fault, the page was not misread before it
  free_by : (name : Name) (page : ℕ) → page_at s name ≡ Some page → ((other : Name) → page_at s other ≡ Some page → Precedes other name → IsFaultless s other) → WasMisread s name → ⊥
  free_by name page mine clean was =
      let e : Some was.page ≡ Some page = sym was.is_of ∙ mine in
      let same : was.page ≡ page = cc in
      let f = misread_shows marks s thin name was.page was.is_misread in
      clean (Guest, f.place) (f.is_of ∙ ap (λ (q : ℕ). Some q) same) f.is_before WrongRead f.is_fault

  -- and where none has one with thinned logs
  free_by_thin : (name : Name) (page : ℕ) → page_at s name ≡ Some page → ((other : Name) → IsKept marks other → page_at s other ≡ Some page → Precedes other name → IsFaultless (thinned marks s) (thin_name marks other)) → WasMisread s name → ⊥
  free_by_thin name page mine clean was =
      let e : Some was.page ≡ Some page = sym was.is_of ∙ mine in
      let same : was.page ≡ page = cc in
      let f = misread_shows marks s thin name was.page was.is_misread in
      clean (Guest, f.place) f.is_kept (f.is_of ∙ ap (λ (q : ℕ). Some q) same) f.is_before WrongRead f.is_thin_fault

  pub keeps_first_faults : KeepsFirstFaults marks s
  keeps_first_faults page f first = (
    kept,
    record {
      is_among = first.is_among;
      is_of = ap (page_at (thinned marks s)) at ∙ same_page marks s thin (f.log, f.place) kept ∙ first.is_of;
      is_reason = subst (λ (name : Name). IsLeastReason (thinned marks s) name f.reason) (sym at) (least_to (f.log, f.place) kept (free_by (f.log, f.place) f.page first.is_of (λ name. first.is_first f.page name first.is_among)) f.reason first.is_reason);
      is_first = λ other name among mine before.
          let old = was_kept marks s thin name other mine in
          let was : page_at s old.0 ≡ Some other = sym (same_page marks s thin old.0 old.1) ∙ ap (page_at (thinned marks s)) old.2 ∙ mine in
          let less : Precedes (thin_name marks old.0) (thin_name marks (f.log, f.place)) = subst (λ a. Precedes a (thin_name marks (f.log, f.place))) (sym old.2) (subst (λ b. Precedes name b) at before) in
          let earlier = precedes_from marks old.0 (f.log, f.place) less in
          let free = free_by old.0 other was (λ third own lt. first.is_first other third among own (passes_on third old.0 (f.log, f.place) lt earlier)) in
          subst (IsFaultless (thinned marks s)) old.2 (none_to old.0 old.1 free (first.is_first other old.0 among was earlier));
    },
  )
    where
      at : Path Name (f.log, (thin_name marks (f.log, f.place)).1) (thin_name marks (f.log, f.place))
      at = sym (renamed marks f.log f.place)

      kept : IsKept marks (f.log, f.place)
      kept = go (stays_or_goes marks s thin (f.log, f.place) f.page first.is_of)
        where
          go : IsKept marks (f.log, f.place) ⊎ Goes marks (f.log, f.place) → IsKept marks (f.log, f.place)
          go (inl mark) = mark
          go (inr gone) =
              let mine : page_at s (Guest, gone.place) ≡ Some f.page = sym (ap (page_at s) gone.is) ∙ first.is_of in
              let none = clean_gone gone.place f.page gone.is_gone mine (λ k lt mark own. first.is_first f.page (Guest, k) first.is_among own (subst (λ b. Precedes (Guest, k) b) (sym gone.is) (inr (refl, lt)))) in
              absurd (none f.reason (subst (λ (name : Name). IsPageFault s f.reason name) gone.is first.is_reason.is_fault))

  -- Where kept records of a page before a place have no fault with thinned logs, no record of it before the place has one.
  module _ (page : ℕ) (past : Name → Type 0) (before : (a b : Name) → Precedes a b → past b → past a) (clean : (name : Name) → IsKept marks name → page_at s name ≡ Some page → past name → IsFaultless (thinned marks s) (thin_name marks name)) where
    kept_clean : (name : Name) → page_at s name ≡ Some page → past name → IsKept marks name → IsFaultless s name
    kept_clean name mine here mark =
        none_from name mark (free_by_thin name page mine (λ other kept own lt. clean other kept own (before other name lt here))) (clean name mark mine here)

    each_clean : (name : Name) → page_at s name ≡ Some page → past name → IsFaultless s name
    each_clean name mine here = go (stays_or_goes marks s thin name page mine)
      where
        go : IsKept marks name ⊎ Goes marks name → IsFaultless s name
        go (inl mark) = kept_clean name mine here mark
        go (inr gone) =
            subst (IsFaultless s) (sym gone.is)
            (clean_gone gone.place page gone.is_gone (sym (ap (page_at s) gone.is) ∙ mine) (λ k lt mark own. kept_clean (Guest, k) own (before (Guest, k) name (subst (λ b. Precedes (Guest, k) b) (sym gone.is) (inr (refl, lt))) here) mark))

  pub first_faults_were : FirstFaultsWere marks s
  first_faults_were page f first =
      let old = was_kept marks s thin (f.log, f.place) f.page first.is_of in
      found old.0 old.1 old.2
    where
      found : (old : Name) → IsKept marks old → thin_name marks old ≡ (f.log, f.place) → (was : PageFault) × IsFirstFault s page was × (f ≡ thin_fault marks was)
      found old kept same = (
        record { page = f.page; log = old.0; place = old.1; reason = f.reason },
        record {
          is_among = first.is_among;
          is_of = mine;
          is_reason = least_from old kept (free_by_thin old f.page mine (λ name mark own lt. clean f.page first.is_among name mark own lt)) f.reason (subst (λ (name : Name). IsLeastReason (thinned marks s) name f.reason) (sym same) first.is_reason);
          is_first = λ other name among own lt. each_clean other (λ a. Precedes a old) (λ a b less here. passes_on a b old less here) (clean other among) name own lt;
        },
        (let e : f.log ≡ old.0 = sym (ap (λ (n : Name). n.0) same) ∙ same_log marks old in
            let g : f.place ≡ (thin_name marks old).1 = sym (ap (λ (n : Name). n.1) same) in
            λ j. record { page = f.page; log = e j; place = g j; reason = f.reason }),
      )
        where
          mine : page_at s old ≡ Some f.page
          mine = sym (same_page marks s thin old kept) ∙ ap (page_at (thinned marks s)) same ∙ first.is_of

          clean : (other : ℕ) → other ≡ page → (name : Name) → IsKept marks name → page_at s name ≡ Some other → Precedes name old → IsFaultless (thinned marks s) (thin_name marks name)
          clean other among name mark own lt = first.is_first other (thin_name marks name) among (same_page marks s thin name mark ∙ own) (subst (λ b. Precedes (thin_name marks name) b) same (precedes_to marks name old mark lt))

  clean_to : (page : ℕ) → IsClean s page → IsClean (thinned marks s) page
  clean_to page clean = record {
    each = λ other name among mine.
        let old = was_kept marks s thin name other mine in
        let was : page_at s old.0 ≡ Some other = sym (same_page marks s thin old.0 old.1) ∙ ap (page_at (thinned marks s)) old.2 ∙ mine in
        subst (IsFaultless (thinned marks s)) old.2 (none_to old.0 old.1 (free_by old.0 other was (λ third own lt. clean.each other third among own)) (clean.each other old.0 among was));
  }

  clean_from : (page : ℕ) → IsClean (thinned marks s) page → IsClean s page
  clean_from page clean = record {
    each = λ other name among mine.
        each_clean other (λ a. Unit {0}) (λ a b less here. tt) (λ third mark own here. clean.each other (thin_name marks third) among (same_page marks s thin third mark ∙ own)) name mine tt;
  }

  pub same_clean_page : (page : ℕ) → IsClean s page ↔ IsClean (thinned marks s) page
  same_clean_page page = (clean_to page, clean_from page)
