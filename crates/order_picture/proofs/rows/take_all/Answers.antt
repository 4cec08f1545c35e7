use Rattle.std.proofs.Common.{◌≡◌, ◌+◌, ◌*◌, ◌<◌, ◌≤◌, ◌∙◌, ℕ, Bool, true, cond, Some, List, length, take, sym, subst, arith, length-take-le}
use Rattle.std.specs.Prelude.{slice_get}
use Rattle.std.proofs.lemmas.List.{take_more}
use Rattle.std.proofs.lemmas.Option.{get_or_from_slice_get, slice_get_within}
use borrow.Author.Count.{below_more}
use Rattle.migration_types.specs.declared.records.LogName.TheVariants.{Guest}
use Rattle.migration_types.specs.Receipts.{Name}
use Rattle.order_picture.specs.Marks.{mark_of}
use Rattle.order_picture.specs.Rows.{has_row, is_certain}
use Rattle.order_picture.specs.inner.Built.{IsBuilt}
use Rattle.order_picture.proofs.Built.{folded_few, since_few}
use Rattle.order_picture.proofs.Certain.{spends, still_has}
use Rattle.order_picture.proofs.rows.take_all.Goals as goal

-- what stands in a list's place past its end
abbrev no_name : Name
no_name = (Guest, 0)

pub take_next-requires-clause-since : goal.take_next-requires-clause-since
take_next-requires-clause-since c = since_few (mark_of c.args.session.now c.args.focus.now) c.loop-n.building (take c.loop-n.n c.args.order.now) _ c.loop-n.invariant.built

pub loop-n-preserved : goal.loop-n-preserved
loop-n-preserved c =
    let order = c.args.order.now in
    let n = c.loop-n.n in
    let fault = c.args.certain.fault in
    let cause = c.args.certain.cause in
    let against = c.args.certain.against in
    let mark = mark_of c.args.session.now c.args.focus.now in
    let before = c.loop-n.building in
    let after = c.take_next.new.building in
    let lt : n < length order = omega arith in
    let left = spends fault cause against n in
    let few = subst (λ (b : Bool). length after.rows.items + after.room + 2 * after.fault_left ≤ length before.rows.items + before.room + 2 * before.fault_left + cond b 2 0) c.is_certain-is_certain.ensures c.in_ok-take_next.ensures.few in
    record {
      built = subst (λ (names : List Name). IsBuilt mark after names) (sym (take_more order n no_name lt)) (c.in_ok-take_next.ensures.built (take n order) c.loop-n.invariant.built);
      few = omega (arith, few, left, c.loop-n.invariant.few);
      certain =
          below_more
          (λ (k : ℕ). (name : Name) → is_certain fault cause against k ≡ true → slice_get order k ≡ Some name → has_row after.rows.items name ≡ true)
          n
          (λ k below name certain at. still_has before.rows.items after.rows.items name c.in_ok-take_next.ensures.more (c.loop-n.invariant.certain k below name certain at))
          (λ name certain at. subst (λ (other : Name). has_row after.rows.items other ≡ true) (get_or_from_slice_get order n name no_name at) (c.in_ok-take_next.ensures.own (c.is_certain-is_certain.ensures ∙ certain)));
    }

pub returns-clause-certain : goal.returns-clause-certain
returns-clause-certain c n name certain at =
    let within = slice_get_within c.args.order.now n name at in
    c.loop-n.invariant.certain n (omega (arith, within, c.loop-n-test.false)) name certain at

pub take_next-requires-clause-few : goal.take_next-requires-clause-few
take_next-requires-clause-few c =
    let n = c.loop-n.n in
    let order = c.args.order.now in
    let h = folded_few (mark_of c.args.session.now c.args.focus.now) c.loop-n.building (take n order) c.loop-n.invariant.built in
    let l = length-take-le n order (omega (arith, c.loop-n-test.true)) in
    omega (arith, h, l, c.loop-n-test.true, c.loop-n.auto.n-end)
