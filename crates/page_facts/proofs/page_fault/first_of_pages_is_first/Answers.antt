use Rattle.page_facts.proofs.OverPages.{all_is}
use Rattle.page_facts.proofs.page_fault.first_of_pages_is_first.Goals as goal

pub returns : goal.returns
returns c = λ s fault limits first. all_is s limits fault first
