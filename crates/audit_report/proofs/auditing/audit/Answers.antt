use Rattle.std.proofs.lemmas.Result.{IfOk-weaker}
use Rattle.audit_report.proofs.Showing.{fits_text, safe_exactly, safe_if_clean}
use Rattle.audit_report.proofs.auditing.audit.Goals as goal

pub returns-clause-safe : goal.returns-clause-safe
returns-clause-safe g c = IfOk-weaker c.report_beside.result _ _ (λ report is. safe_if_clean c.args.session.now c.faults_are_unsafe.ensures.clean c.keeps_limits.ensures report is) c.report_beside.ensures

pub returns-clause-exactly : goal.returns-clause-exactly
returns-clause-exactly g c =
    let s = c.args.session.now in
    IfOk-weaker c.report_beside.result _ _ (λ report is. safe_exactly s c.faults_are_unsafe.ensures.clean (c.faults_are_unsafe.ensures.exactly s) c.keeps_limits.ensures report is) c.report_beside.ensures

pub returns-clause-fits : goal.returns-clause-fits
returns-clause-fits g c = IfOk-weaker c.report_beside.result _ _ (λ report is. fits_text c.args.session.now report is) c.report_beside.ensures
