-- Logs that are thinned again and again.
use Rattle.std.proofs.Common.{◌≡◌, ◌↔◌, ℕ, Bool, List, refl, sym, ap, ◌∙◌, subst}
use Rattle.migration_types.specs.Sessions.{Recorded}
use Rattle.page_facts.specs.declared.page_fault.PageFault.{PageFault}
use Rattle.kept_faults.specs.Thinned.{thinned, IsThinning, IsThinned, itself, again}
use Rattle.kept_faults.specs.ThinLaws.{HasFirstLike, HasSameVerdict}
use Rattle.kept_faults.proofs.ThinFirst.{keeps_first_faults, first_faults_were, same_clean_page}
use Rattle.kept_faults.proofs.ThinMergings.{same_mergings}
use Rattle.kept_faults.proofs.ThinShape.{same_shape}

both_steps : {A B C : Type 0} → A ↔ B → B ↔ C → A ↔ C
both_steps f g = (λ a. g.0 (f.0 a), λ c. f.1 (g.1 c))

-- a first fault like one that is like another
like_on : (s : Recorded) (page : ℕ) (f g : PageFault) → g.log ≡ f.log → g.reason ≡ f.reason → HasFirstLike s page g → HasFirstLike s page f
like_on s page f g log reason like = record { found = like.found; is_first = like.is_first; is_log = like.is_log ∙ log; is_reason = like.is_reason ∙ reason }

same_once : (marks : List Bool) (s : Recorded) → IsThinning marks s → HasSameVerdict s (thinned marks s)
same_once marks s thin = record {
  shape = same_shape marks s thin;
  merging = same_mergings marks s thin;
  clean = same_clean_page marks s thin;
  first = λ page f h. let r = keeps_first_faults marks s thin page f h in record { found = _; is_first = r.1; is_log = refl; is_reason = refl };
  was_first = λ page f h.
      let r = first_faults_were marks s thin page f h in
      record { found = r.0; is_first = r.1; is_log = sym (ap (λ (g : PageFault). g.log) r.2); is_reason = sym (ap (λ (g : PageFault). g.reason) r.2) };
}

pub same_verdict : {whole thin : Recorded} → IsThinned whole thin → HasSameVerdict whole thin
same_verdict itself = record {
  shape = (λ h. h, λ h. h);
  merging = (λ h. h, λ h. h);
  clean = λ page. (λ h. h, λ h. h);
  first = λ page f h. record { found = f; is_first = h; is_log = refl; is_reason = refl };
  was_first = λ page f h. record { found = f; is_first = h; is_log = refl; is_reason = refl };
}
same_verdict {whole} (again {thin} {next} before marks thinning e) = subst (HasSameVerdict whole) (sym e) (composed (same_verdict before) (same_once marks thin thinning))
  where
    composed : HasSameVerdict whole thin → HasSameVerdict thin (thinned marks thin) → HasSameVerdict whole (thinned marks thin)
    composed one two = record {
      shape = both_steps one.shape two.shape;
      merging = both_steps one.merging two.merging;
      clean = λ page. both_steps (one.clean page) (two.clean page);
      first = λ page f h. let a = one.first page f h in like_on (thinned marks thin) page f a.found a.is_log a.is_reason (two.first page a.found a.is_first);
      was_first = λ page f h. let a = two.was_first page f h in like_on whole page f a.found a.is_log a.is_reason (one.was_first page a.found a.is_first);
    }
