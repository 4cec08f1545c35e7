use Rattle.std.proofs.Common.{sym, subst}
use Rattle.audit_report.specs.Reports.{IsReport, ReportFits}
use Rattle.judged_texts.specs.Ordered.{TellsOrder}
use Rattle.judged_texts.proofs.Ordered.{faulty_tells, clean_tells}
use Rattle.judged_texts.proofs.orders.reports_tell_orders.Goals as goal

pub returns-in-Clean : goal.returns-in-Clean
returns-in-Clean c = λ s is. subst TellsOrder (sym c.in-Clean.is) (clean_tells c.in-Clean.cert c.keeps_limits.ensures)

pub returns-in-Faulty : goal.returns-in-Faulty
returns-in-Faulty c = λ s is.
    let f = c.in-Faulty in
    subst TellsOrder (sym f.is) (faulty_tells s f.line f.fault f.order f.pages c.is_few.ensures (subst ReportFits f.is c.requires) (subst (IsReport s) f.is is))
