use Rattle.page_facts.specs.Looks.{AreNoted}
use Rattle.page_facts.proofs.looks.note_reached.Given as goal

abbrev pub invariant-loop-place : goal.invariant-loop-place
invariant-loop-place l = AreNoted l.session l.n l.place l.first
