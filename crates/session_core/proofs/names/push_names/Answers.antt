use Rattle.audit_model.specs.Mergings.{run_names}
use Rattle.migration_types.specs.Receipts.{logs}
use Rattle.migration_types.specs.declared.records.LogName.TheVariants.{Guest}
use Rattle.session_core.specs.Names.{length_in, names_between}
use Rattle.session_core.proofs.NameRuns.{names_more}
use Rattle.session_core.proofs.names.push_names.Goals as goal
use Rattle.std.proofs.Common.{[], ap, arith, get_or, length, sym, take, ◌+◌, ◌++◌, ◌<◌, ◌∙◌, ◌∷◌, ◌≡◌, ◌≤◌}
use Rattle.std.proofs.lemmas.List.{append_assoc, take_more}
use Rattle.std.specs.Prelude.{◌-◌, slice_index, vec_len}

pub loop-log-preserved : goal.loop-log-preserved
loop-log-preserved c =
    let k = c.loop-log.log-index in
    let log = get_or c.logs-log-items.result k Guest in
    let old = length_in c.args.old in
    let new = length_in c.args.new in
    let before = c.args.order.now.items in
    let names = run_names log (old log) (new log - old log) in
    let lt : k < length logs = omega (arith, c.loop-log-test.true, ap length c.loop-log.invariant.list) in
    let at : take (k + 1) logs ≡ take k logs ++ log ∷ [] = take_more logs k Guest lt ∙ ap (λ ls. take k logs ++ get_or ls k Guest ∷ []) (sym c.logs-log-items.ensures) in
    let grows : new log - old log ≤ 2 = omega (arith, c.requires.grows log) in
    let long : vec_len c.push_run.new.order ≡ vec_len c.loop-log.order + (new log - old log) =
    c.push_run.ensures.len
    ∙ ap (λ at. vec_len c.loop-log.order + (slice_index c.args.new c.index-in-loop-log.result - slice_index c.args.old at)) c.index.ensures.value
    ∙ ap (λ at. vec_len c.loop-log.order + (slice_index c.args.new at - old log)) c.index-in-loop-log.ensures.value in
    record {
      list = c.loop-log.invariant.list;
      items =
          c.push_run.ensures.items
          ∙ ap (λ at. c.loop-log.order.items ++ run_names log (slice_index c.args.old at) (slice_index c.args.new c.index-in-loop-log.result - slice_index c.args.old at)) c.index.ensures.value
          ∙ ap (λ at. c.loop-log.order.items ++ run_names log (old log) (slice_index c.args.new at - old log)) c.index-in-loop-log.ensures.value
          ∙ ap (λ items. items ++ names) c.loop-log.invariant.items
          ∙ append_assoc before (names_between old new (take k logs)) names
          ∙ ap (λ more. before ++ more) (sym (names_more old new (take k logs) log) ∙ ap (names_between old new) (sym at));
      room = omega (arith, lt, grows, c.loop-log.invariant.room, c.push_run.ensures.capacity, long);
    }
