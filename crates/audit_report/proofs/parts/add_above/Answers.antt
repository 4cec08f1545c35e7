use Rattle.std.proofs.Common.{◌+◌, ◌≤◌, get_or, min, ◌-◌, ap, ◌∙◌, arith}
use Rattle.std.specs.List.{filter}
use Rattle.migration_types.specs.Limits.{longest_log}
use Rattle.migration_types.specs.declared.records.LogName.TheVariants.{Guest}
use Rattle.migration_types.specs.declared.cert.Run.{Run}
use Rattle.audit_model.specs.Names.{log_length}
use Rattle.audit_model.specs.Mergings.{Cursors, spelled}
use Rattle.audit_model.specs.Walks.{IsWholeWalk}
use Rattle.audit_model.specs.Delayed.{is_below}
use Rattle.merge_runs.specs.Taken.{cursors_of}
use Rattle.cert_maker.proofs.Fitting.{log_fits}
use Rattle.audit_report.proofs.Points.{room_at, moved_on}
use Rattle.audit_report.proofs.Blocks.{IsAdded}
use Rattle.audit_report.proofs.Splitting.{above_none, above_on, above_all}
use Rattle.audit_report.proofs.parts.add_above.Goals.{In-loop-run}
use Rattle.audit_report.proofs.parts.add_above.Goals as goal

-- what stands in a list's place past its end
abbrev no_run : Run
no_run = record { log = Guest; count = 0 }

abbrev run_of : In-loop-run → Run
run_of c = get_or c.args.runs.now c.loop-run.run-index no_run

whole : (c : In-loop-run) → IsWholeWalk c.args.session.now (spelled c.args.runs.now)
whole c = (c.mergings_are_walks.ensures.walks c.args.session.now (spelled c.args.runs.now)).0 c.requires.merging

fits : (c : In-loop-run) → cursors_of c.loop-run.taken (run_of c).log + (run_of c).count ≤ log_length c.args.session.now (run_of c).log
fits c = room_at c.args.session.now c.args.runs.now (whole c) c.loop-run.taken c.loop-run.run-index no_run c.loop-run.invariant.at c.loop-run-test.true

small : (c : In-loop-run) → cursors_of c.loop-run.taken (run_of c).log + (run_of c).count ≤ longest_log
small c = omega (arith, fits c, log_fits c.args.session.now (run_of c).log c.requires.limits)

pub loop-run-init : goal.loop-run-init
loop-run-init c =
    let s = c.args.session.now in
    let walk = (c.mergings_are_walks.ensures.walks s (spelled c.args.runs.now)).0 c.requires.merging in
    record {
      at = c.nothing-taken.ensures;
      going = above_none s (cursors_of c.args.cut.now) c.args.runs.now c.args.parts.now.items walk.1 c.requires.within c.requires.below;
    }

pub add_part-requires-clause-room : goal.add_part-requires-clause-room
add_part-requires-clause-room c =
    let at = (goal.at.add_part-requires-clause-room c).In-loop-run in
    let s = c.args.session.now in
    let run : Run = get_or c.args.runs.now c.loop-run.run-index no_run in
    let here = ap (λ (x : Cursors). x run.log) c.loop-run.invariant.at in
    let ends_at = c.loop-run.invariant.going.ends run.log in
    omega (arith, here, ends_at, c.below_of-below.ensures, small at, c.requires.within run.log, log_fits s run.log c.requires.limits)

pub loop-run-preserved : goal.loop-run-preserved
loop-run-preserved c =
    let at = (goal.at.loop-run-preserved c).In-loop-run in
    let s = c.args.session.now in
    let runs = c.args.runs.now in
    let d = cursors_of c.args.cut.now in
    let k = c.loop-run.run-index in
    let run : Run = get_or runs k no_run in
    let i = c.loop-run.invariant in
    let below = c.below_of-below.result in
    let added : IsAdded c.loop-run.parts.items run.log (run.count - below) c.add_part.new.runs.items = record { blocks = c.in_ok-add_part.ensures.blocks; spelled = c.in_ok-add_part.ensures.spelled } in
    let is = ap (λ n. run.count - n) (c.below_of-below.ensures ∙ ap (λ (x : Cursors). min run.count (d run.log - x run.log)) i.at) in
    record {
      at = moved_on s runs (whole at) c.loop-run.taken c.moved-taken.result k no_run i.at c.loop-run-test.true c.moved-taken.ensures;
      going = above_on s runs d k no_run c.loop-run-test.true (filter (is_below d) (spelled runs)) c.loop-run.parts.items c.add_part.new.runs.items (run.count - below) i.going is added;
    }

pub returns : goal.returns
returns c = above_all (cursors_of c.args.cut.now) c.args.runs.now c.loop-run.run-index c.loop-run.parts.items c.loop-run-test.false c.loop-run.invariant.going
