use Rattle.std.proofs.Common.{ℕ, ◌+◌, List, [], ◌∷◌, Option, None, refl, sym, ap, subst, ◌∙◌}
use Rattle.std.specs.Prelude.{slice_range}
use Rattle.std.proofs.lemmas.Result.{err_from_is_err_and}
use Rattle.recorder_files.specs.Files.{header, recording_line, IsName}
use Rattle.recorder_files.specs.declared.pieces.Cut.{Cut}
use Rattle.recorder_files.specs.inner.Finding.{AreAll, AreRead, Takes}
use Rattle.recorder_files.proofs.Telling.{says_nothing, long_fault, name_refused}
use Rattle.recorder_files.proofs.heads.take_name.Goals as goal

pub returns-in_err-cut-clause-refused : goal.returns-in_err-cut-clause-refused
returns-in_err-cut-clause-refused g c =
    let p = err_from_is_err_and c.from_residual.result c.from_residual.ensures.1 in
    rw (p.1, p.2) (λ party known read. long_fault party known (header ∷ []) 2 None c.in_err-cut.field-0.0 refl refl (c.in_err-cut.ensures.refused known (header ∷ []) read))

pub returns-in_default-clause-taken : goal.returns-in_default-clause-taken
returns-in_default-clause-taken g c = λ party known read.
    let rest = g.R.Read.remaining c.take_line.new.reader in
    let all : AreAll known (header ∷ []) = subst (λ (o : Option Cut). Takes known rest c.take_line.new.buffer (header ∷ []) o) c.in_default.is (c.in_ok-cut.ensures.taken known (header ∷ []) read) in
    says_nothing party known (header ∷ []) all refl

pub returns-in-Ok-clause-taken : goal.returns-in-Ok-clause-taken
returns-in-Ok-clause-taken g c = λ party known read.
    let rest = g.R.Read.remaining c.take_line.new.reader in
    let buffer = c.take_line.new.buffer in
    let cut = c.in-Some.cut in
    let bytes = slice_range buffer (cut.end + 1) cut.held in
    let taken : AreRead known rest bytes (header ∷ slice_range buffer cut.start cut.end ∷ []) = subst (λ (o : Option Cut). Takes known rest buffer (header ∷ []) o) c.in-Some.is (c.in_ok-cut.ensures.taken known (header ∷ []) read) in
    let found = c.in-Some-read_name.ensures.found in
    let same = sym c.in-Ok.ensures in
    (subst IsName same found.0, subst (λ (l : List ℕ). AreRead known rest bytes (header ∷ l ∷ [])) (found.1 ∙ ap recording_line same) taken)

pub returns-in-None-clause-refused : goal.returns-in-None-clause-refused
returns-in-None-clause-refused g c = λ party known read.
    let rest = g.R.Read.remaining c.take_line.new.reader in
    let buffer = c.take_line.new.buffer in
    let cut = c.in-Some.cut in
    let line = slice_range buffer cut.start cut.end in
    let bytes = slice_range buffer (cut.end + 1) cut.held in
    let taken : AreRead known rest bytes (header ∷ line ∷ []) = subst (λ (o : Option Cut). Takes known rest buffer (header ∷ []) o) c.in-Some.is (c.in_ok-cut.ensures.taken known (header ∷ []) read) in
    name_refused party known rest line bytes taken c.in-None.ensures.none
