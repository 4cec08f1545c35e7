use Rattle.std.proofs.Common.{refl, ap, ◌∙◌}
use Rattle.std.proofs.lemmas.Result.{err_from_is_err_and}
use Rattle.guest_script.specs.inner.ScriptDraft.{begun, draft_of}
use Rattle.guest_script.proofs.ScriptVcpus.{next_taken, next_refused}
use Rattle.guest_script.proofs.script_steps.ScriptParts.at_next.Goals as goal

pub returns-in_err-before : goal.returns-in_err-before
returns-in_err-before c = let p = err_from_is_err_and c.from_residual.result c.from_residual.ensures.1 in rw (p.1, p.2) (refl, λ other. next_refused (draft_of c.args.self.now) c.args.line.now c.requires.whole c.requires.more c.in_err-before.ensures.refused)

pub returns : goal.returns
returns c =
    let found = c.in_ok-before.ensures.found in
    let new = draft_of c.begin_vcpu.new.self in
    next_taken (draft_of c.args.self.now) new c.in_ok-before.before c.in_ok-before.after c.args.line.now (c.begin_vcpu.ensures ∙ ap (λ (d : _). begun c.in_ok-before.before c.in_ok-before.after d) c.in_ok-end_vcpu.ensures.ok) c.requires.live c.requires.whole c.requires.more found.0 found.1 found.2
