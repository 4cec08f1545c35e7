use Rattle.std.proofs.Common.{Option, sym, subst}
use Rattle.std.specs.Option.{MatchOption}
use Rattle.page_facts.specs.declared.page_fault.PageFault.{PageFault}
use Rattle.page_facts.specs.PageFaults.{IsClean, IsFirstFault}
use Rattle.page_facts.proofs.OfPage.{page_fault_is}
use Rattle.page_facts.proofs.page_fault.fault_of.Goals as goal

pub returns : goal.returns
returns c =
    let s = c.args.session.now in
    let page = c.args.page in
    subst (λ (o : Option PageFault). MatchOption o (IsClean s page) (IsFirstFault s page)) (sym c.first_in_logs.ensures) (page_fault_is s page c.args.findings.now c.requires)
