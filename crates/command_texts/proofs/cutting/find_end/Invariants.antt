use Rattle.std.proofs.Common.{◌≡◌, List, ℕ, ◌++◌, length}
use Rattle.command_texts.specs.inner.Ends.{NoEndYet}
use Rattle.command_texts.proofs.cutting.find_end.Given as goal

abbrev pub invariant-loop-line : goal.invariant-loop-line
invariant-loop-line l = record {
  front : List ℕ;
  parts : l.piece ≡ front ++ l.rest;
  yet : (input : List ℕ) → NoEndYet input l.fn.lacking → NoEndYet (input ++ front) l.lacking;
}

abbrev pub decreases-loop-line : goal.decreases-loop-line
decreases-loop-line l = length l.rest
