use Rattle.std.proofs.Common.{◌≡◌, ◌≢◌, ◌++◌, List, length, sym, ap, ◌∙◌, subst}
use Rattle.std.specs.Prelude.{MatchBool}
use Rattle.migration_events.specs.declared.ops.Op.{Op}
use Rattle.host_checks.specs.Outcomes.{ops_of}
use Rattle.host_checks.proofs.Comparing.{whole_of, last_ops, first_ops}
use Rattle.host_checks.proofs.transcript.is_of_script.Goals as goal

pub returns-then-are_ops : goal.returns-then-are_ops
returns-then-are_ops c =
    let first = c.split_at.result.0.now in
    let last = c.split_at.result.1.now in
    let b = c.are_ops-then-are_ops.result in
    let whole = whole_of (length c.as_slice-before.result.now) c.as_slice-answers.result.now c.args.transcript.now first last c.as_slice-answers.ensures c.split_at.ensures.front c.split_at.ensures.back in
    let told = subst (λ (ops : List Op). MatchBool b (ops_of last ≡ ops) (ops_of last ≢ ops)) c.as_slice.ensures c.are_ops-then-are_ops.ensures in
    last_ops c.args.transcript.now first last c.args.vcpu.now.before_move c.args.vcpu.now.after_move b whole (c.if-are_ops.ensures ∙ c.as_slice-before.ensures) told

pub returns-else-are_ops : goal.returns-else-are_ops
returns-else-are_ops c =
    let first = c.split_at.result.0.now in
    let last = c.split_at.result.1.now in
    let whole = whole_of (length c.as_slice-before.result.now) c.as_slice-answers.result.now c.args.transcript.now first last c.as_slice-answers.ensures c.split_at.ensures.front c.split_at.ensures.back in
    rw c.if-are_ops.false
    (first_ops c.args.transcript.now first last c.args.vcpu.now.before_move c.args.vcpu.now.after_move whole (c.split_at.ensures.front_len ∙ ap length c.as_slice-before.ensures) (λ same. c.if-are_ops.ensures (same ∙ sym c.as_slice-before.ensures)))
