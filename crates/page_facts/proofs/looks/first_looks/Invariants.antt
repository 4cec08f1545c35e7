use Rattle.page_facts.specs.Looks.{AreLooks}
use Rattle.page_facts.proofs.looks.first_looks.Given as goal

abbrev pub invariant-loop-n : goal.invariant-loop-n
invariant-loop-n l = AreLooks l.session l.n l.looks
