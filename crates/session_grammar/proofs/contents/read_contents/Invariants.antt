use Rattle.std.proofs.Common.{◌≡◌, ℕ, ◌<◌, ◌+◌, ◌*◌, ◌^◌, ◌++◌, length}
use Rattle.std.specs.List.{AllByRecursion}
use Rattle.text_lines.specs.Contents.{contents_text}
use Rattle.session_grammar.proofs.contents.read_contents.Given as goal

abbrev pub invariant-loop : goal.invariant-loop
invariant-loop l = record {
  so_far : l.text ≡ contents_text l.items.items ++ l.rest;
  count : length l.items.items ≡ l.counter;
  left : length l.rest + 16 * l.counter ≡ 16 * l.fn.cells;
  each : AllByRecursion (λ (x : ℕ). x < 2 ^ 64) l.items.items;
}
