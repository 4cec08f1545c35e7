use Rattle.std.proofs.lemmas.Result.{IfOk-weaker}
use Rattle.audit_report.proofs.Showing.{fits_text, safe_exactly}
use Rattle.audit_report.proofs.auditing.audit_in_full.Goals as goal

pub returns-clause-exactly : goal.returns-clause-exactly
returns-clause-exactly g c =
    let s = c.args.session.now in
    IfOk-weaker c.full_report.result _ _ (λ full is. safe_exactly s c.faults_are_unsafe.ensures.clean (c.faults_are_unsafe.ensures.exactly s) c.keeps_limits.ensures full.report is.report) c.full_report.ensures

pub returns-clause-fits : goal.returns-clause-fits
returns-clause-fits g c = IfOk-weaker c.full_report.result _ _ (λ full is. fits_text c.args.session.now full.report is.report) c.full_report.ensures
