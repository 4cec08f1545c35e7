use Rattle.std.proofs.Common.{ℕ, None, subst, arith}
use Rattle.page_facts.specs.PageFaults.{IsFirstFaultFrom}
use Rattle.page_facts.proofs.OverPages.{least_more, least_none}
use Rattle.page_facts.specs.FaultyPages.{AreManyFrom}
use Rattle.audit_report.proofs.auditing.FaultAndEntriesQuestion.take.Goals as goal

pub returns : goal.returns
returns c = λ first count here old.
    let s = c.args.session.now in
    let page = c.args.page in
    let fault = c.fault_of-fault.result in
    let one : IsFirstFaultFrom s page 1 fault = least_more s page 0 page None fault (omega arith) (least_none s page) c.fault_of-fault.ensures in (
      c.in_ok-add.ensures s first count 1 old.0 (subst (λ (p : ℕ). IsFirstFaultFrom s p 1 fault) here one),
      c.in_ok-add-2.ensures s first count 1 old.1 (subst (λ (p : ℕ). AreManyFrom s p 1 c.many_in-many.result) here c.many_in-many.ensures),
      c.in_ok-take.ensures first count here old.2,
    )
