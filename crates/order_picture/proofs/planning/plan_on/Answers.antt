use Rattle.std.proofs.Common.{IfOk, sym, subst}
use Rattle.std.proofs.lemmas.Result.{IfOk-weaker}
use Rattle.audit_report.specs.declared.report.Report.{Report}
use Rattle.order_picture.specs.Pictures.{IsPicture, IsPictureOf}
use Rattle.order_picture.proofs.planning.plan_on.Goals as goal

pub returns-in-Knot : goal.returns-in-Knot
returns-in-Knot c =
    let s = c.args.session.now in
    let topic = c.args.topic in
    let runs = c.as_slice-in-Knot.result.now in
    let made = c.plan_along-in-Knot in
    subst (λ (r : Report). IfOk made.result (IsPicture s r topic)) (sym c.in-Knot.is)
    (IfOk-weaker made.result _ _ (λ p h. (runs, c.as_slice-in-Knot.ensures, subst (λ (r : Report). IsPictureOf s r topic runs p) c.in-Knot.is h)) made.ensures)
