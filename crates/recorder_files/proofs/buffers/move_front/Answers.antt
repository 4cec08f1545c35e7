use Rattle.std.proofs.Common.{◌≡◌, ◌+◌, ◌-◌, take, drop, ap, ◌∙◌, length-drop, arith}
use lib.Seq.{paste}
use Rattle.std.proofs.lemmas.List.Edits.{take-paste}
use Rattle.recorder_files.proofs.buffers.move_front.Goals as goal

pub returns-clause-moved : goal.returns-clause-moved
returns-clause-moved c =
    let all = c.args.buffer.now in
    let count = c.args.end - c.args.start in
    let same : count ≡ 0 + count = omega arith in
    ap (take count) c.copy_within.ensures.after ∙ (ap (λ k. take k (paste all 0 (drop c.args.start all) count)) same ∙ take-paste all 0 (drop c.args.start all) count (omega arith) (omega (arith, length-drop c.args.start all)))
