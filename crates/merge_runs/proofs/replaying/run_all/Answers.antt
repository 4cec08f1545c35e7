use Rattle.std.proofs.Common.{◌+◌, ◌≤◌, ◌∙◌, sym, ap, subst, get_or}
use Rattle.migration_types.specs.declared.records.LogName.TheVariants.{Guest}
use Rattle.migration_types.specs.declared.cert.Run.{Run}
use Rattle.audit_model.specs.Names.{log_length}
use Rattle.audit_model.specs.Mergings.{Cursors, spelled, moved}
use Rattle.merge_runs.specs.Taken.{cursors_of}
use Rattle.merge_runs.proofs.Walking.{cursors_on, nothing_within, within_after, own_moved}
use Rattle.merge_runs.proofs.AllRuns.{run_fits, run_on}
use Rattle.merge_runs.proofs.replaying.run_all.Goals as goal

-- what stands in a list's place past its end
abbrev no_run : Run
no_run = record { log = Guest; count = 0 }

pub loop-place-init : goal.loop-place-init
loop-place-init c = record {
  within = nothing_within c.args.session.now _ c.nothing-taken.ensures;
  at = c.nothing-taken.ensures;
  sized = c.requires.sized;
  run = c.requires.start;
}

pub run_log-requires-clause-within : goal.run_log-requires-clause-within
run_log-requires-clause-within c =
    let s = c.args.session.now in
    let runs = c.args.runs.now in
    let place = c.loop-place.place in
    let run = get_or runs place no_run in
    let i = c.loop-place.invariant in
    let at = cursors_of c.loop-place.taken in
    let whole = (c.mergings_are_walks.ensures.walks s (spelled runs)).0 c.requires.merging in
    let fits = run_fits s runs place no_run c.loop-place-test.true at i.at whole (i.within run.log) in
    subst (λ k. k + run.count ≤ log_length s run.log) (sym c.of.ensures) fits

pub loop-place-preserved : goal.loop-place-preserved
loop-place-preserved c =
    let s = c.args.session.now in
    let runs = c.args.runs.now in
    let place = c.loop-place.place in
    let run = get_or runs place no_run in
    let i = c.loop-place.invariant in
    let at = cursors_of c.loop-place.taken in
    let after = cursors_of c.moved-taken.result in
    let whole = (c.mergings_are_walks.ensures.walks s (spelled runs)).0 c.requires.merging in
    let fits = run_fits s runs place no_run c.loop-place-test.true at i.at whole (i.within run.log) in
    let own : after run.log ≤ log_length s run.log = subst (λ k. k ≤ log_length s run.log) (sym (ap (λ (e : Cursors). e run.log) c.moved-taken.ensures ∙ own_moved at run.log run.count)) fits in
    record {
      within = within_after s at after run.log run.count i.within c.moved-taken.ensures own;
      at = c.moved-taken.ensures ∙ ap (λ (e : Cursors). moved e run.log run.count) i.at ∙ sym (cursors_on s runs place no_run c.loop-place-test.true);
      sized = c.in_ok-run_log.ensures.sized;
      run = run_on s runs place no_run c.loop-place-test.true at c.of.result c.loop-place.replaying c.run_log.new.replaying i.at c.of.ensures c.in_ok-run_log.ensures.run i.run;
    }
