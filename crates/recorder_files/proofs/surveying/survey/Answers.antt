use Rattle.std.proofs.Common.{◌≡◌, ◌+◌, ℕ, suc, [], ◌∷◌, ◌++◌, Option, sym, subst, ◌∙◌, arith, length}
use Rattle.std.proofs.lemmas.Result.{err_from_is_err_and}
use Rattle.std.proofs.lemmas.List.{length_push}
use Rattle.recorder_files.specs.Said.{CameTo, Goes}
use Rattle.recorder_files.proofs.Reading.{risen, survey_is}
use Rattle.recorder_files.proofs.surveying.survey.Goals as goal

pub returns-in_err-number-clause-refused : goal.returns-in_err-number-clause-refused
returns-in_err-number-clause-refused g c =
    let p = err_from_is_err_and c.from_residual.result c.from_residual.ensures.1 in
    rw (p.1, p.2) (λ party known begun. let old = c.records.invariant party known begun in c.in_err-number.ensures.refused party known old.0 old.1)

pub records-preserved : goal.records-preserved
records-preserved g c = λ party known begun.
    let old = c.records.invariant party known begun in
    let now = c.next.new.self in
    let here : CameTo party known now (old.0 ++ (c.in-Some.number, now.text) ∷ []) = subst (λ (o : Option ℕ). Goes party known now old.0 o) c.in-Some.is (c.in_ok-number.ensures.taken party known old.0 old.1) in
    let long : length (old.0 ++ (c.in-Some.number, now.text) ∷ []) ≡ length old.0 + 1 = length_push old.0 (c.in-Some.number, now.text) in
    let low : now.low ≡ suc c.in-Some.number = risen now.opening.first now.low old.0 c.in-Some.number now.text here.rise in
    let many : c.records.records ≡ length old.0 = old.2 in
    (old.0 ++ (c.in-Some.number, now.text) ∷ [], here, omega (arith, c.in-Some-checked_add.ensures.1), omega (arith, c.in-Some-checked_add-2.ensures.1), old.4 ∙ sym c.in_ok-number.ensures.head.1, c.in_ok-number.ensures.head.0 ∙ old.5)

pub returns-in-None-clause-surveyed : goal.returns-in-None-clause-surveyed
returns-in-None-clause-surveyed g c = λ party known begun.
    let old = c.records.invariant party known begun in
    let now = c.next.new.self in
    survey_is party known _ c.records.file now old.0 _ old.1 (subst (λ (o : Option ℕ). Goes party known now old.0 o) c.in-None.is (c.in_ok-number.ensures.taken party known old.0 old.1)) (c.in_ok-number.ensures.head.0 ∙ old.5) c.in_ok-number.ensures.head.1 old.4 old.2 old.3 c.last.ensures
