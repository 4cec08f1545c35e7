use Rattle.std.proofs.Common.{ap, arith}
use Rattle.std.proofs.lemmas.Result.{err_from_is_err_and}
use Rattle.guest_script.specs.inner.ScriptDraft.{draft_of}
use Rattle.guest_script.proofs.ScriptSteps.{page_taken, page_refused, pivots_taken}
use Rattle.guest_script.proofs.script_steps.ScriptParts.at_init.Goals as goal

pub returns-then-is_whole : goal.returns-then-is_whole
returns-then-is_whole c = let found = c.in_ok-pivots.ensures.found in pivots_taken (draft_of c.args.self.now) c.in_ok-pivots.pivots c.args.line.now c.requires c.if-is_whole.ensures found.0 found.1 found.2

pub returns-in_err-line : goal.returns-in_err-line
returns-in_err-line c = let p = err_from_is_err_and c.from_residual-in_err-line.result c.from_residual-in_err-line.ensures.1 in rw (p.1, p.2) (
  ap (λ (x : _). record (draft_of c.args.self.now) { init = x }) c.in_err-line.ensures.err,
  λ other. page_refused (draft_of c.args.self.now) c.args.line.now _ c.requires.fits c.if-is_whole.ensures (omega (arith, c.left.ensures)) (c.in_err-line.ensures.refused other),
)

pub returns : goal.returns
returns c =
    let t = c.in_ok-line.ensures.ok in
    page_taken (draft_of c.args.self.now) t.item c.line.new.self c.args.line.now c.requires c.if-is_whole.ensures t.grown t.follows (omega (arith, c.left.ensures, t.fits.0)) t.fits.1 t.spelled
