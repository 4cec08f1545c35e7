use Rattle.std.proofs.Common.{arith}
use Rattle.std.proofs.lemmas.Bool.{leb-true, le-leb}
use Rattle.merge_runs.specs.Taken.{cursors_of}
use Rattle.audit_report.proofs.Depending.{never_before, above_if_never}
use Rattle.audit_report.proofs.dependence.depends_on.Goals as goal

pub returns-clause-orders : goal.returns-clause-orders
returns-clause-orders c =
    let s = c.args.session.now in
    let name = c.args.name in
    let cut = c.cut_for-cut.ensures in (
      λ e.
          let high = leb-true c.of.result name.1 e in
          never_before s c.requires.shape name c.args.other (cut.is_delayed name c.requires.there (omega (arith, high, c.of.ensures))),
      λ never.
          let high = above_if_never s c.requires.shape _ c.requires.merging c.args.other (cursors_of c.cut_for-cut.result) cut name c.requires.there c.requires.other never in
          le-leb c.of.result name.1 (omega (arith, high, c.of.ensures)),
    )
