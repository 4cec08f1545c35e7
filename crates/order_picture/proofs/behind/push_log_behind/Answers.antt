use Rattle.std.proofs.Common.{◌<◌, ◌≤◌, ◌+◌, ◌-◌, ◌∙◌, List, ◌++◌, sym, ap, arith}
use Rattle.std.specs.Prelude.{filter}
use Rattle.migration_types.specs.Receipts.{Name}
use Rattle.audit_model.specs.Mergings.{run_names}
use Rattle.audit_model.specs.Names.{log_length}
use Rattle.order_picture.specs.Behind.{is_behind}
use Rattle.order_picture.proofs.Behinds.{none_more, one_more}
use Rattle.order_picture.proofs.behind.push_log_behind.Goals as goal

pub loop-place-preserved : goal.loop-place-preserved
loop-place-preserved c =
    let p = is_behind c.args.picture.now in
    let log = c.args.log in
    let len = log_length c.args.session.now log in
    let place = c.loop-place.place in
    let lt : place < len = omega (arith, c.loop-place-test.true, c.len-len.ensures.value) in
    ap (λ (ns : List Name). ns ++ filter p (run_names log (place + 1) (len - (place + 1)))) c.in_ok-push_if_behind.ensures
    ∙ (one_more p log place len lt c.loop-place.names.items ∙ c.loop-place.invariant)

pub returns : goal.returns
returns c =
    let p = is_behind c.args.picture.now in
    let log = c.args.log in
    let len = log_length c.args.session.now log in
    let le : len ≤ c.loop-place.place = omega (arith, c.loop-place-test.false, c.len-len.ensures.value) in
    sym (none_more p log c.loop-place.place len le c.loop-place.names.items) ∙ c.loop-place.invariant
