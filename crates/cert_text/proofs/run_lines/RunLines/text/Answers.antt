use Rattle.std.proofs.Common.{ap}
use Rattle.cert_text.specs.inner.Held.{RunsSoFar}
use Rattle.cert_text.proofs.RunGoes.{not_whole}
use Rattle.cert_text.proofs.run_lines.RunLines.text.Goals as goal

pub returns-in_default : goal.returns-in_default
returns-in_default c =
    let i = c.self.inside in
    let held = ap (λ (r : RunsSoFar). r.lines) c.self.view_is in
    let version = ap (λ (r : RunsSoFar). r.version) c.self.view_is in
    let size = ap (λ (r : RunsSoFar). r.size) c.self.view_is in
    record { found = tt; none = rw (← version, ← size) (not_whole i.form.version i.form.size i.stage i.runs c.args.self.lines held c.self.invariant c.in_default.not-Done) }
