use Rattle.std.proofs.Common.{[], sym, arith}
use Rattle.std.proofs.lemmas.List.{append-nil}
use Rattle.recorder_files.proofs.Cutting.{all_inside}
use Rattle.recorder_files.proofs.pieces.look_far.Goals as goal

pub returns-then-bytes-gt-LONGEST_LINE : goal.returns-then-bytes-gt-LONGEST_LINE
returns-then-bytes-gt-LONGEST_LINE c = λ rest.
    let bytes = c.args.bytes.now in
    (bytes, [], sym (append-nil bytes), all_inside bytes (λ k lt p. c.in-None.ensures k (omega arith) lt p), omega (arith, c.if-bytes-gt-LONGEST_LINE.true))

pub returns-else-bytes-gt-LONGEST_LINE : goal.returns-else-bytes-gt-LONGEST_LINE
returns-else-bytes-gt-LONGEST_LINE c =
    let bytes = c.args.bytes.now in
    record { inside = all_inside bytes (λ k lt p. c.in-None.ensures k (omega arith) lt p); short = omega (arith, c.if-bytes-gt-LONGEST_LINE.false) }
