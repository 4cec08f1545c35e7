use Rattle.recorder_files.proofs.Cutting.{finds_long, finds_end, finds_line}
use Rattle.recorder_files.proofs.pieces.found_at.Goals as goal

pub returns-then-at-gt-LONGEST_LINE : goal.returns-then-at-gt-LONGEST_LINE
returns-then-at-gt-LONGEST_LINE c = λ rest. finds_long rest c.args.bytes.now c.args.at c.requires c.if-at-gt-LONGEST_LINE.true

pub returns-then-bytes-at-eq0 : goal.returns-then-bytes-at-eq0
returns-then-bytes-at-eq0 c = λ rest. finds_end rest c.args.bytes.now c.args.at c.requires c.if-at-gt-LONGEST_LINE.false c.if-bytes-at-eq0.true

pub returns : goal.returns
returns c = λ rest. finds_line rest c.args.bytes.now c.args.at c.requires c.if-at-gt-LONGEST_LINE.false c.if-bytes-at-eq0.false
