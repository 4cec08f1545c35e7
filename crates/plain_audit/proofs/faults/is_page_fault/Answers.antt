use Rattle.audit_model.proofs.PageFaultTests.{fault_Decides, told}
use Rattle.plain_audit.proofs.faults.is_page_fault.Goals as goal

pub returns : goal.returns
returns c = told c.tests_fault.result _ c.tests_fault.ensures (fault_Decides c.args.session.now c.args.reason (c.args.log, c.args.place))
