use Rattle.std.proofs.Common.{◌+◌, Option, sym, subst}
use Rattle.page_facts.specs.declared.page_fault.PageFault.{PageFault}
use Rattle.page_facts.specs.PageFaults.{IsFirstFaultFrom}
use Rattle.page_facts.proofs.OverPages.{least_joined}
use Rattle.page_facts.proofs.page_fault.FirstFaultQuestion.add.Goals as goal

pub returns : goal.returns
returns c = λ s first count more low high. subst (λ (o : Option PageFault). IsFirstFaultFrom s first (count + more) o) (sym c.least.ensures) (least_joined s first count more c.args.first.now c.args.next low high)
