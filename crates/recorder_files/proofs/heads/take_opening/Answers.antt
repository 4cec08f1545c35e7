use Rattle.std.proofs.Common.{ℕ, ◌+◌, List, [], ◌∷◌, Option, None, refl, sym, ap, subst, ◌∙◌}
use Rattle.std.specs.Prelude.{slice_range}
use Rattle.std.proofs.lemmas.Result.{err_from_is_err_and}
use Rattle.recorder_files.specs.Files.{header, recording_line, opening_line}
use Rattle.recorder_files.specs.declared.lines.Party.{Party}
use Rattle.recorder_files.specs.declared.pieces.Cut.{Cut}
use Rattle.recorder_files.specs.inner.Finding.{AreAll, AreRead, Takes}
use Rattle.recorder_files.proofs.Telling.{says_nothing, long_fault, opening_refused}
use Rattle.recorder_files.proofs.heads.take_opening.Goals as goal

pub returns-in_err-cut-clause-refused : goal.returns-in_err-cut-clause-refused
returns-in_err-cut-clause-refused g c =
    let p = err_from_is_err_and c.from_residual.result c.from_residual.ensures.1 in
    rw (p.1, p.2) (λ known name is read. long_fault c.args.party known (header ∷ recording_line name ∷ []) 3 None c.in_err-cut.field-0.0 refl (refl, (name, is, refl)) (c.in_err-cut.ensures.refused known (header ∷ recording_line name ∷ []) read))

pub returns-in_default-clause-taken : goal.returns-in_default-clause-taken
returns-in_default-clause-taken g c = λ known name is read.
    let rest = g.R.Read.remaining c.take_line.new.reader in
    let lines = header ∷ recording_line name ∷ [] in
    let all : AreAll known lines = subst (λ (o : Option Cut). Takes known rest c.take_line.new.buffer lines o) c.in_default.is (c.in_ok-cut.ensures.taken known lines read) in
    says_nothing c.args.party known lines all (refl, (name, is, refl))

pub returns-in-Some-read-clause-taken : goal.returns-in-Some-read-clause-taken
returns-in-Some-read-clause-taken g c = λ known name is read.
    let rest = g.R.Read.remaining c.take_line.new.reader in
    let buffer = c.take_line.new.buffer in
    let cut = c.in-Some.cut in
    let lines = header ∷ recording_line name ∷ [] in
    let bytes = slice_range buffer (cut.end + 1) cut.held in
    let taken : AreRead known rest bytes (header ∷ recording_line name ∷ slice_range buffer cut.start cut.end ∷ []) = subst (λ (o : Option Cut). Takes known rest buffer lines o) c.in-Some.is (c.in_ok-cut.ensures.taken known lines read) in
    let found = c.in-Some-read.ensures.found in
    let o = c.in-Some-read.opening in (
      record { is_name = is; is_party = found.0; first = found.1; file = found.2 },
      subst (λ (l : List ℕ). AreRead known rest bytes (header ∷ recording_line name ∷ l ∷ [])) (found.3 ∙ ap (λ (p : Party). opening_line p o.first o.file) (sym found.0)) taken,
    )

pub returns-in-None-clause-refused : goal.returns-in-None-clause-refused
returns-in-None-clause-refused g c = λ known name is read.
    let rest = g.R.Read.remaining c.take_line.new.reader in
    let buffer = c.take_line.new.buffer in
    let cut = c.in-Some.cut in
    let lines = header ∷ recording_line name ∷ [] in
    let line = slice_range buffer cut.start cut.end in
    let bytes = slice_range buffer (cut.end + 1) cut.held in
    let taken : AreRead known rest bytes (header ∷ recording_line name ∷ line ∷ []) = subst (λ (o : Option Cut). Takes known rest buffer lines o) c.in-Some.is (c.in_ok-cut.ensures.taken known lines read) in
    opening_refused c.args.party known rest name line bytes is taken c.in-None.ensures.none
