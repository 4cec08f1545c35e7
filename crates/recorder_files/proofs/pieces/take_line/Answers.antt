use Rattle.std.proofs.Common.{refl, subst}
use Rattle.std.specs.Prelude.{slice_range}
use Rattle.recorder_files.specs.declared.pieces.NextLine.{NextLine}
use Rattle.recorder_files.specs.inner.Finding.{Finds}
use Rattle.recorder_files.proofs.TakenLines.{line_taken, all_taken, long_at}
use Rattle.recorder_files.proofs.pieces.take_line.Goals as goal

pub returns-in-Line-clause-taken : goal.returns-in-Line-clause-taken
returns-in-Line-clause-taken g c = λ known lines read.
    let remaining = g.R.Read.remaining in
    let rest = remaining c.find.new.reader in
    let buffer = c.find.new.buffer in
    let start = c.in_ok-start.start in
    let end = c.in_ok-start.end in
    let found = subst (λ (f : NextLine). Finds rest (slice_range buffer start end) f) c.in-Line.is c.in_ok-start.ensures.found in
    line_taken known (remaining c.args.reader.now) rest (slice_range c.args.buffer.now c.args.start c.args.end) buffer start end c.in-Line.len lines c.in_ok-start.ensures.order c.in_ok-start.ensures.within c.in_ok-start.ensures.same found read

pub returns-in-End-clause-taken : goal.returns-in-End-clause-taken
returns-in-End-clause-taken g c = λ known lines read.
    let remaining = g.R.Read.remaining in
    let rest = remaining c.find.new.reader in
    let bytes = slice_range c.find.new.buffer c.in_ok-start.start c.in_ok-start.end in
    let found = subst (λ (f : NextLine). Finds rest bytes f) c.in-End.is c.in_ok-start.ensures.found in
    all_taken known (remaining c.args.reader.now) rest (slice_range c.args.buffer.now c.args.start c.args.end) bytes lines c.in_ok-start.ensures.same found read

pub returns-in-Long-clause-refused : goal.returns-in-Long-clause-refused
returns-in-Long-clause-refused g c = λ known lines read.
    let remaining = g.R.Read.remaining in
    let rest = remaining c.find.new.reader in
    let bytes = slice_range c.find.new.buffer c.in_ok-start.start c.in_ok-start.end in
    let found = subst (λ (f : NextLine). Finds rest bytes f) c.in-Long.is c.in_ok-start.ensures.found in
    (refl, long_at known (remaining c.args.reader.now) rest (slice_range c.args.buffer.now c.args.start c.args.end) bytes lines c.in_ok-start.ensures.same found read)
