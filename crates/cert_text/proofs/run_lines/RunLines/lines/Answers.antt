use Rattle.std.proofs.Common.{sym}
use Rattle.cert_text.specs.declared.run_lines.RunStage.TheVariants.{Runs}
use Rattle.cert_text.proofs.RunGoes.{live_at, lines_fit}
use Rattle.cert_text.proofs.run_lines.RunLines.lines.Goals as goal

pub invariant_of-self : goal.invariant_of-self
invariant_of-self g c =
    let i = c.self.inside in
    let version = i.form.version in
    let size = i.form.size in
    let fits = lines_fit version size i.runs c.lines.new.self c.args.bytes.now c.lines.result.0.now c.lines.result.1 (live_at version size i.stage Runs i.runs c.in-Runs.is c.self.invariant) c.lines.ensures.count c.lines.ensures.within c.lines.ensures.taken in
    live_at version size Runs i.stage c.lines.new.self (sym c.in-Runs.is) fits
