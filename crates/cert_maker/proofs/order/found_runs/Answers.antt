use Rattle.std.proofs.Common.{List, ◌∙◌, sym, subst}
use Rattle.migration_types.specs.declared.cert.Run.{Run}
use Rattle.migration_types.specs.declared.records.LogName.TheVariants.{Guest}
use Rattle.merge_runs.specs.Taken.{cursors_of}
use Rattle.merge_runs.proofs.Walking.{nothing_within}
use Rattle.cert_maker.specs.Orders.{IsFoundFront}
use Rattle.cert_maker.proofs.Found.{going_start, going_on, going_runs, left_less, is_found_order}
use Rattle.cert_maker.proofs.order.found_runs.Goals as goal

pub loop-log-init : goal.loop-log-init
loop-log-init c =
    let n = c.next_run-first.ensures in
    going_start c.args.session.now _ _ c.next_run-first.result _ c.nothing-taken.ensures n.log n.goes c.moved-taken.ensures c.in_ok-runs.ensures

pub loop-log-preserved : goal.loop-log-preserved
loop-log-preserved c =
    let n = c.next_run-run.ensures in
    going_on c.args.session.now _ _ _ _ c.in-Some.log c.next_run-run.result c.loop-log.invariant (sym c.first_ready.ensures ∙ c.in-Some.is) n.log n.goes c.moved-taken-in-Some.ensures c.in_ok-push.ensures.items

pub loop-log-smaller : goal.loop-log-smaller
loop-log-smaller c =
    let s = c.args.session.now in
    let n = c.next_run-run.ensures in
    let first = sym c.first_ready.ensures ∙ c.in-Some.is in
    let going = going_on s _ _ _ _ c.in-Some.log c.next_run-run.result c.loop-log.invariant first n.log n.goes c.moved-taken-in-Some.ensures c.in_ok-push.ensures.items in
    left_less s (cursors_of c.loop-log.taken) (cursors_of c.moved-taken-in-Some.result) c.in-Some.log c.next_run-run.result.count first n.goes c.moved-taken-in-Some.ensures going.within

pub returns : goal.returns
returns c =
    let s = c.args.session.now in
    let runs = c.loop-log.runs.items in
    let at = cursors_of c.loop-log.taken in
    let going = c.loop-log.invariant in
    subst (λ (rs : List Run). IsFoundFront s rs at) (sym c.from_vec.ensures) (record {
      is_found_order = is_found_order s runs at going (sym c.first_ready.ensures ∙ c.in_default.is);
      are_runs = going_runs s runs at c.keeps_limits.ensures going;
      at = going.at;
      within = going.within;
    })

pub next_run-first-requires-clause-within : goal.next_run-first-requires-clause-within
next_run-first-requires-clause-within c = nothing_within c.args.session.now _ c.nothing-taken.ensures Guest
