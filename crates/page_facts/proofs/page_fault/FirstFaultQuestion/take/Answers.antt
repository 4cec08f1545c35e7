use Rattle.std.proofs.Common.{◌+◌, Option, sym, subst}
use Rattle.page_facts.specs.declared.page_fault.PageFault.{PageFault}
use Rattle.page_facts.specs.PageFaults.{IsFirstFaultFrom}
use Rattle.page_facts.proofs.OverPages.{least_more}
use Rattle.page_facts.proofs.page_fault.FirstFaultQuestion.take.Goals as goal

pub returns : goal.returns
returns c = λ first count here old. let s = c.args.session.now in subst (λ (o : Option PageFault). IsFirstFaultFrom s first (count + 1) o) (sym c.least.ensures) (least_more s first count c.args.page c.args.first.now c.fault_of.result here old c.fault_of.ensures)
