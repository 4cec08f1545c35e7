use Rattle.std.proofs.Common.{◌≡◌, ℕ, ◌+◌, true, false, List, [], ◌∷◌, Option, None, refl, subst, arith}
use Rattle.std.specs.Prelude.{slice_range}
use Rattle.std.proofs.lemmas.Result.{err_from_is_err_and}
use Rattle.recorder_files.specs.declared.pieces.Cut.{Cut}
use Rattle.recorder_files.specs.inner.Finding.{AreAll, AreRead, Takes}
use Rattle.recorder_files.proofs.Telling.{at_start, says_nothing, long_fault, header_refused}
use Rattle.recorder_files.proofs.heads.take_header.Goals as goal

pub returns-in_err-cut-clause-refused : goal.returns-in_err-cut-clause-refused
returns-in_err-cut-clause-refused g c =
    let known = g.R.Read.remaining c.args.reader.now in
    let p = err_from_is_err_and c.from_residual.result c.from_residual.ensures.1 in
    rw (p.1, p.2) (λ party. long_fault party known [] 1 None c.in_err-cut.field-0.0 (omega arith) tt (c.in_err-cut.ensures.refused known [] (at_start known)))

pub returns-in_default-clause-taken : goal.returns-in_default-clause-taken
returns-in_default-clause-taken g c = λ party.
    let known = g.R.Read.remaining c.args.reader.now in
    let rest = g.R.Read.remaining c.take_line.new.reader in
    let all : AreAll known [] = subst (λ (o : Option Cut). Takes known rest c.take_line.new.buffer [] o) c.in_default.is (c.in_ok-cut.ensures.taken known [] (at_start known)) in
    says_nothing party known [] all tt

pub returns-then-not-is_line-clause-refused : goal.returns-then-not-is_line-clause-refused
returns-then-not-is_line-clause-refused g c = λ party.
    let known = g.R.Read.remaining c.args.reader.now in
    let rest = g.R.Read.remaining c.take_line.new.reader in
    let buffer = c.take_line.new.buffer in
    let cut = c.in-Some.cut in
    let line = slice_range buffer cut.start cut.end in
    let read : AreRead known rest (slice_range buffer (cut.end + 1) cut.held) (line ∷ []) = subst (λ (o : Option Cut). Takes known rest buffer [] o) c.in-Some.is (c.in_ok-cut.ensures.taken known [] (at_start known)) in
    header_refused party known rest line (slice_range buffer (cut.end + 1) cut.held) read (λ e. let t : false ≡ true = c.if-not-is_line.ensures.1 e in absurd (cc))

pub returns-clause-taken : goal.returns-clause-taken
returns-clause-taken g c = λ party.
    let known = g.R.Read.remaining c.args.reader.now in
    let rest = g.R.Read.remaining c.take_line.new.reader in
    let buffer = c.take_line.new.buffer in
    let cut = c.in-Some.cut in
    let bytes = slice_range buffer (cut.end + 1) cut.held in
    let read : AreRead known rest bytes (slice_range buffer cut.start cut.end ∷ []) = subst (λ (o : Option Cut). Takes known rest buffer [] o) c.in-Some.is (c.in_ok-cut.ensures.taken known [] (at_start known)) in
    subst (λ (l : List ℕ). AreRead known rest bytes (l ∷ [])) (c.if-not-is_line.ensures.0 refl) read
