use Rattle.std.proofs.lemmas.Option.{MatchOption-at_some, MatchOption-at_none}
use Rattle.audit_model.specs.Faults.{HasNoPageFault}
use Rattle.audit_model.specs.FirstFault.{IsFirstPageFault}
use Rattle.page_facts.specs.declared.page_fault.PageFault.{PageFault}
use Rattle.page_facts.specs.PageFaults.{AreClean, IsFirstFaultOf, IsPageOf}
use Rattle.audit_report.proofs.auditing.by_pages.Goals as goal

pub faulty-requires-clause-fault : goal.faulty-requires-clause-fault
faulty-requires-clause-fault c =
    let s = c.args.session.now in
    MatchOption-at_some (HasNoPageFault s) (λ (f : PageFault). IsFirstPageFault s f.reason (f.log, f.place)) c.in-Some.fault c.in-Some.is (c.first_of_pages_is_first.ensures s c.args.audited.fault c.requires.limits c.requires.fault)

pub faulty-requires-clause-of : goal.faulty-requires-clause-of
faulty-requires-clause-of c =
    let s = c.args.session.now in
    (MatchOption-at_some (AreClean s (IsPageOf 0 s.geometry.pages)) (IsFirstFaultOf s (IsPageOf 0 s.geometry.pages)) c.in-Some.fault c.in-Some.is c.requires.fault).is_of

pub clean-requires-clause-no_fault : goal.clean-requires-clause-no_fault
clean-requires-clause-no_fault c =
    let s = c.args.session.now in
    MatchOption-at_none (HasNoPageFault s) (λ (f : PageFault). IsFirstPageFault s f.reason (f.log, f.place)) c.in-None.is (c.first_of_pages_is_first.ensures s c.args.audited.fault c.requires.limits c.requires.fault)
