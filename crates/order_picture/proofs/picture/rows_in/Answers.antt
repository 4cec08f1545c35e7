use Rattle.std.proofs.Common.{ℕ, Option, subst}
use Rattle.std.specs.Prelude.{IfOk, position}
use Rattle.order_picture.specs.Marks.{is_one}
use Rattle.order_picture.specs.Rows.{HasCertain}
use Rattle.order_picture.proofs.picture.rows_in.Goals as goal

pub returns-clause-certain : goal.returns-clause-certain
returns-clause-certain c =
    let order = c.args.order.now in
    let of = c.of-certain.result in
    let fault = position (is_one c.args.focus.now.fault) order in
    let cause = position (is_one c.args.focus.now.cause) order in
    subst
    (λ (at : Option ℕ). IfOk c.rows_of.result (λ rows. HasCertain fault cause at rows.items order))
    c.of-certain.ensures.against
    (subst
    (λ (at : Option ℕ). IfOk c.rows_of.result (λ rows. HasCertain fault at of.against rows.items order))
    c.of-certain.ensures.cause
    (subst
    (λ (at : Option ℕ). IfOk c.rows_of.result (λ rows. HasCertain at of.cause of.against rows.items order))
    c.of-certain.ensures.fault
    c.rows_of.ensures.certain))
