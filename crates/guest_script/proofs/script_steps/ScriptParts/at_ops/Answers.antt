use Rattle.std.proofs.Common.{ap, arith}
use Rattle.std.proofs.lemmas.Result.{err_from_is_err_and}
use Rattle.guest_script.specs.inner.ScriptDraft.{draft_of}
use Rattle.guest_script.proofs.ScriptVcpus.{early_refused, early_taken, late_refused, late_taken, with_after, with_before}
use Rattle.guest_script.proofs.script_steps.ScriptParts.at_ops.Goals as goal

pub returns-in_err-take_op : goal.returns-in_err-take_op
returns-in_err-take_op c = let p = err_from_is_err_and c.from_residual.result c.from_residual.ensures.1 in rw (p.1, p.2) (
  ap (λ (ops : _). with_before ops (draft_of c.args.self.now)) c.in_err-take_op.ensures.err,
  λ other. early_refused (draft_of c.args.self.now) c.args.line.now (omega (arith, c.if-len-self.true, c.len.ensures)) (c.in_err-take_op.ensures.refused other),
)

pub returns-then-len-self : goal.returns-then-len-self
returns-then-len-self c =
    let t = c.in_ok-take_op.ensures.ok in
    early_taken (draft_of c.args.self.now) t.op c.take_op.new.ops.items c.args.line.now c.requires (omega (arith, c.if-len-self.true, c.len.ensures)) t.grown t.fits t.spelled

pub returns-in_err-take_op-2 : goal.returns-in_err-take_op-2
returns-in_err-take_op-2 c =
    let p = err_from_is_err_and c.from_residual-in_err-take_op-2.result c.from_residual-in_err-take_op-2.ensures.1 in
    let within = c.requires.fits.within_before in
    rw (p.1, p.2) (
      ap (λ (ops : _). with_after ops (draft_of c.args.self.now)) c.in_err-take_op-2.ensures.err,
      λ other. late_refused (draft_of c.args.self.now) c.args.line.now (omega (arith, c.if-len-self.false, c.len.ensures, within)) (omega (arith, c.if-len-self-2.true, c.len-2.ensures)) (c.in_err-take_op-2.ensures.refused other),
    )

pub returns-then-len-self-2 : goal.returns-then-len-self-2
returns-then-len-self-2 c =
    let t = c.in_ok-take_op-2.ensures.ok in
    let within = c.requires.fits.within_before in
    late_taken (draft_of c.args.self.now) t.op c.take_op-then-len-self-2.new.ops.items c.args.line.now c.requires (omega (arith, c.if-len-self.false, c.len.ensures, within)) (omega (arith, c.if-len-self-2.true, c.len-2.ensures)) t.grown t.fits t.spelled
