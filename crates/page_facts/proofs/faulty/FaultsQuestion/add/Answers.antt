use Rattle.std.proofs.Common.{◌+◌, List, sym, subst}
use Rattle.page_facts.specs.declared.faulty.FaultyPage.{FaultyPage}
use Rattle.page_facts.specs.FaultyPages.{AreFaultyFrom}
use Rattle.page_facts.proofs.MorePages.{joined}
use Rattle.page_facts.proofs.faulty.FaultsQuestion.add.Goals as goal

pub returns : goal.returns
returns c = λ s first count more low high. subst (λ (found : List FaultyPage). AreFaultyFrom s first (count + more) found) (sym c.in_ok-append.ensures.items) (joined s first count more c.args.faulty.now.items c.args.next.items low high)
