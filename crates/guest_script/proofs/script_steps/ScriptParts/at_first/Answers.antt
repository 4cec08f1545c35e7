use Rattle.std.proofs.Common.{refl}
use Rattle.std.proofs.lemmas.Result.{err_from_is_err_and}
use Rattle.guest_script.specs.inner.ScriptDraft.{draft_of}
use Rattle.guest_script.proofs.ScriptVcpus.{first_taken, first_refused}
use Rattle.guest_script.proofs.script_steps.ScriptParts.at_first.Goals as goal

pub returns-in_err-before : goal.returns-in_err-before
returns-in_err-before c = let p = err_from_is_err_and c.from_residual.result c.from_residual.ensures.1 in rw (p.1, p.2) (refl, λ other. first_refused (draft_of c.args.self.now) c.args.line.now c.in_err-before.ensures.refused)

pub returns : goal.returns
returns c =
    let found = c.in_ok-before.ensures.found in
    first_taken (draft_of c.args.self.now) (draft_of c.begin_vcpu.new.self) c.in_ok-before.before c.in_ok-before.after c.args.line.now c.begin_vcpu.ensures c.requires found.0 found.1 found.2
