use Rattle.std.proofs.Common.{◌≡◌, ℕ, suc, List, [], ◌∷◌, ◌++◌, Option, None, sym, subst, ◌∙◌, length}
use Rattle.recorder_files.specs.Gathered.{Numbered}
use Rattle.recorder_files.specs.Said.{CameTo, Goes, RiseTo, Standing}
use Rattle.recorder_files.specs.declared.lines.Party.{Party}
use Rattle.recorder_files.specs.declared.lines.Opening.{Opening}
use Rattle.recorder_files.specs.Surveys.{IsSurveyOf}
use Rattle.recorder_files.specs.declared.surveying.Surveyed.{Surveyed}

pub risen : (low next : ℕ) (came : Numbered (List ℕ)) (n : ℕ) (text : List ℕ) → RiseTo low (came ++ (n, text) ∷ []) next → next ≡ suc n
risen low next [] n text h = h.2
risen low next (r ∷ came) n text h = risen (suc r.0) next came n text h.2

pub survey_is : (party : Party) (known : Option (List ℕ)) (recording : List ℕ) (old new : Standing) (came : Numbered (List ℕ)) (s : Surveyed) → CameTo party known old came → Goes party known new came None → new.name ≡ recording → new.opening ≡ old.opening → s.opening ≡ old.opening → s.records ≡ length came → s.next ≡ old.low → s.last ≡ new.last → IsSurveyOf party known recording s
survey_is party known recording old new came s here says named same opening records next last = record {
  said = record { name = new.name; opening = new.opening; records = came; last = new.last };
  says = says;
  named = named;
  opening = opening ∙ sym same;
  records = records;
  next = subst (λ n. RiseTo new.opening.first came n) (sym next) (subst (λ (o : Opening). RiseTo o.first came old.low) (sym same) here.rise);
  last = last;
}
