use Rattle.std.proofs.Common.{List, sym, subst, arith}
use Rattle.migration_types.specs.declared.cert.Run.{Run}
use Rattle.migration_types.specs.Certs.{AreRuns}
use Rattle.audit_model.specs.Mergings.{spelled}
use Rattle.audit_model.proofs.Walked.{merging_is_walk}
use Rattle.cert_maker.proofs.Fitting.{fitting_runs}
use Rattle.audit_report.proofs.parts.rearranged.Goals as goal

pub returns-clause-runs : goal.returns-clause-runs
returns-clause-runs c =
    let s = c.args.session.now in
    let parts = c.in_ok-add_above.ensures in
    let all = merging_is_walk s (spelled c.args.runs.now) c.requires.merging in
    subst (λ (runs : List Run). AreRuns s.version s.geometry.size runs) (sym c.from_vec.ensures)
    (fitting_runs s c.add_above.new.parts.items c.requires.limits parts.blocks.each parts.blocks.alternate (λ log. omega (arith, parts.ends log, all.1 log, c.requires.within log)))
