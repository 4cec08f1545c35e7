use Rattle.std.proofs.Common.{◌≡◌, ◌∙◌, List, ◌++◌, sym, ap, arith, get_or, take}
use Rattle.std.proofs.lemmas.List.{append_assoc, append-nil}
use Rattle.migration_types.specs.declared.records.LogName.TheVariants.{Guest}
use Rattle.migration_types.specs.declared.cert.Run.{Run}
use Rattle.migration_types.specs.Receipts.{Name}
use Rattle.audit_model.specs.Mergings.{Cursors, run_names, spelled, moved}
use Rattle.merge_runs.specs.Taken.{cursors_of}
use Rattle.merge_runs.proofs.Walking.{cursors_on, nothing_within, own_moved, with_it, within_after}
use Rattle.cert_maker.proofs.Fitting.{log_fits}
use Rattle.order_picture.proofs.Names.{run_fits}
use Rattle.order_picture.proofs.order.push_runs.Goals as goal

-- what stands in a list's place past its end
abbrev no_run : Run
no_run = record { log = Guest; count = 0 }

pub loop-place-init : goal.loop-place-init
loop-place-init c = record { within = nothing_within c.args.session.now _ c.nothing-taken.ensures; at = c.nothing-taken.ensures; names = sym (append-nil c.args.names.now.items) }

pub push_run-requires : goal.push_run-requires
push_run-requires c =
    let s = c.args.session.now in
    let runs = c.args.runs.now in
    let place = c.loop-place.place in
    let run = get_or runs place no_run in
    let i = c.loop-place.invariant in
    let fits = run_fits s runs place no_run c.loop-place-test.true (cursors_of c.loop-place.taken) i.at c.requires.walk (i.within run.log) in
    let few = log_fits s run.log c.requires.limits in
    omega (arith, fits, few, c.of.ensures)

pub loop-place-preserved : goal.loop-place-preserved
loop-place-preserved c =
    let s = c.args.session.now in
    let runs = c.args.runs.now in
    let place = c.loop-place.place in
    let run = get_or runs place no_run in
    let i = c.loop-place.invariant in
    let lt = c.loop-place-test.true in
    let old = c.args.names.now.items in
    let so_far = spelled (take place runs) in
    let at = cursors_of c.loop-place.taken in
    let fits = run_fits s runs place no_run lt at i.at c.requires.walk (i.within run.log) in
    let from : c.of.result ≡ at run.log = c.of.ensures in
    let own = ap (λ (e : Cursors). e run.log) c.moved-taken.ensures ∙ own_moved at run.log run.count in
    record {
      within = within_after s at (cursors_of c.moved-taken.result) run.log run.count i.within c.moved-taken.ensures (omega (arith, own, fits));
      at = c.moved-taken.ensures ∙ ap (λ (e : Cursors). moved e run.log run.count) i.at ∙ sym (cursors_on s runs place no_run lt);
      names =
          c.in_ok-push_run.ensures
          ∙ (ap (λ (ns : List Name). ns ++ run_names run.log c.of.result run.count) i.names
          ∙ (append_assoc old so_far (run_names run.log c.of.result run.count)
          ∙ ap (λ (ns : List Name). old ++ ns) (ap (λ n. so_far ++ run_names run.log n run.count) (from ∙ ap (λ (e : Cursors). e run.log) i.at) ∙ sym (with_it s runs place no_run lt))));
    }
