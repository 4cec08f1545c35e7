use Rattle.std.proofs.Common.{List, sym, subst}
use Rattle.page_facts.specs.declared.faulty.FaultyPage.{FaultyPage}
use Rattle.page_facts.specs.FaultyPages.{AreFaultyFrom}
use Rattle.page_facts.proofs.MorePages.{no_page}
use Rattle.page_facts.proofs.faulty.FaultsQuestion.blank.Goals as goal

pub returns : goal.returns
returns c = λ s first. subst (λ (found : List FaultyPage). AreFaultyFrom s first 0 found) (sym c.new.ensures.items) (no_page s first)
