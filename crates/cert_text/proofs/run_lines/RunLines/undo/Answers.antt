use Rattle.std.proofs.Common.{sym, ap}
use Rattle.cert_text.specs.declared.run_lines.RunStage.TheVariants.{Runs}
use Rattle.cert_text.specs.inner.Held.{RunsSoFar}
use Rattle.cert_text.proofs.RunGoes.{live_at}
use Rattle.cert_text.proofs.Back.{run_fits_back, run_undone, closing_undone}
use Rattle.cert_text.proofs.run_lines.RunLines.undo.Goals as goal

pub invariant_of-self-else-not-drop_last : goal.invariant_of-self-else-not-drop_last
invariant_of-self-else-not-drop_last c =
    let i = c.self.inside in
    let version = i.form.version in
    let size = i.form.size in
    let lost = c.if-not-drop_last.ensures in
    let live = live_at version size i.stage Runs i.runs c.in-Runs.is c.self.invariant in
    live_at version size Runs i.stage c.drop_last.new.self (sym c.in-Runs.is) (run_fits_back version size i.runs c.drop_last.new.self lost.0 lost.1 live)

pub returns-else-not-drop_last-clause-lines : goal.returns-else-not-drop_last-clause-lines
returns-else-not-drop_last-clause-lines c =
    let i = c.self.inside in
    run_undone i.stage i.runs c.drop_last.new.self c.args.self.now.lines (ap (λ (r : RunsSoFar). r.lines) c.self.view_is) c.in-Runs.is c.if-not-drop_last.ensures

pub returns-in-Done-clause-lines : goal.returns-in-Done-clause-lines
returns-in-Done-clause-lines c =
    let i = c.self.inside in
    closing_undone i.stage i.runs c.args.self.now.lines (ap (λ (r : RunsSoFar). r.lines) c.self.view_is) c.in-Done.is
