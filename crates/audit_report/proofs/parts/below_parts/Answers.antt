use Rattle.std.proofs.Common.{◌+◌, ◌≤◌, get_or, min, ◌-◌, sym, ap, ◌∙◌, subst, arith, take, List}
use Rattle.migration_types.specs.Limits.{longest_log}
use Rattle.migration_types.specs.declared.records.LogName.TheVariants.{Guest}
use Rattle.migration_types.specs.declared.cert.Run.{Run}
use Rattle.audit_model.specs.Mergings.{Cursors, spelled}
use Rattle.audit_model.specs.Walks.{IsWholeWalk}
use Rattle.merge_runs.specs.Taken.{cursors_of}
use Rattle.audit_report.specs.inner.Parts.{AreBelow}
use Rattle.cert_maker.proofs.Fitting.{log_fits}
use Rattle.audit_report.proofs.Points.{room_at, moved_on}
use Rattle.audit_report.proofs.Blocks.{IsAdded}
use Rattle.audit_report.proofs.Splitting.{below_none, below_on, below_all}
use Rattle.audit_report.proofs.parts.below_parts.Goals.{In-loop-run}
use Rattle.audit_report.proofs.parts.below_parts.Goals as goal

-- what stands in a list's place past its end
abbrev no_run : Run
no_run = record { log = Guest; count = 0 }

abbrev run_of : In-loop-run → Run
run_of c = get_or c.args.runs.now c.loop-run.run-index no_run

whole : (c : In-loop-run) → IsWholeWalk c.args.session.now (spelled c.args.runs.now)
whole c = (c.mergings_are_walks.ensures.walks c.args.session.now (spelled c.args.runs.now)).0 c.requires.merging

small : (c : In-loop-run) → cursors_of c.loop-run.taken (run_of c).log + (run_of c).count ≤ longest_log
small c = omega (arith, room_at c.args.session.now c.args.runs.now (whole c) c.loop-run.taken c.loop-run.run-index no_run c.loop-run.invariant.at c.loop-run-test.true, log_fits c.args.session.now (run_of c).log c.requires.limits)

pub loop-run-init : goal.loop-run-init
loop-run-init c = record {
  at = c.nothing-taken.ensures;
  below = subst (λ (rs : List Run). AreBelow (cursors_of c.args.cut.now) (take 0 c.args.runs.now) rs) (sym c.new-parts.ensures.items) (below_none (cursors_of c.args.cut.now) c.args.runs.now);
}

pub moved-taken-requires : goal.moved-taken-requires
moved-taken-requires c = omega (arith, small (goal.at.moved-taken-requires c).In-loop-run)

pub loop-run-preserved : goal.loop-run-preserved
loop-run-preserved c =
    let at = (goal.at.loop-run-preserved c).In-loop-run in
    let s = c.args.session.now in
    let runs = c.args.runs.now in
    let d = cursors_of c.args.cut.now in
    let k = c.loop-run.run-index in
    let run : Run = get_or runs k no_run in
    let i = c.loop-run.invariant in
    let added : IsAdded c.loop-run.parts.items run.log c.below_of-below.result c.add_part.new.runs.items = record { blocks = c.in_ok-add_part.ensures.blocks; spelled = c.in_ok-add_part.ensures.spelled } in
    let is = c.below_of-below.ensures ∙ ap (λ (x : Cursors). min run.count (d run.log - x run.log)) i.at in
    record {
      at = moved_on s runs (whole at) c.loop-run.taken c.moved-taken.result k no_run i.at c.loop-run-test.true c.moved-taken.ensures;
      below = below_on s runs d k no_run c.loop-run-test.true c.loop-run.parts.items c.add_part.new.runs.items c.below_of-below.result i.below is added;
    }

pub returns : goal.returns
returns c = below_all (cursors_of c.args.cut.now) c.args.runs.now c.loop-run.run-index c.loop-run.parts.items c.loop-run-test.false c.loop-run.invariant.below
