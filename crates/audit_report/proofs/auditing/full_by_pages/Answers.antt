use Rattle.page_facts.proofs.MorePages.{from_zero}
use Rattle.audit_report.proofs.auditing.full_by_pages.Goals as goal

pub returns : goal.returns
returns g c =
    let s = c.args.session.now in
    record { report = c.in_ok-report.ensures; pages = λ judged. from_zero s s.geometry.pages c.in_ok-audited.pages.items c.in_ok-audited.ensures.1 }
