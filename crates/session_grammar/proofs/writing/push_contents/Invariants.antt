use Rattle.std.proofs.Common.{◌≡◌, ◌++◌, take, length}
use Rattle.text_lines.specs.Contents.{contents_text}
use Rattle.session_grammar.proofs.writing.push_contents.Given as goal

abbrev pub invariant-loop-four : goal.invariant-loop-four
invariant-loop-four l = l.out.items ++ contents_text l.rest ≡ l.fn.out.items ++ contents_text l.cells

abbrev pub decreases-loop-four : goal.decreases-loop-four
decreases-loop-four l = length l.rest

abbrev pub invariant-loop-value : goal.invariant-loop-value
invariant-loop-value l = l.out.items ≡ l.initial.out.items ++ contents_text (take l.value-index l.value-items)
