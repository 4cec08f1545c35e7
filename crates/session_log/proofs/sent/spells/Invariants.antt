use Rattle.std.proofs.Common.{◌≡◌, ◌<◌, ◌^◌, ◌++◌, take}
use Rattle.std.specs.List.{AllByRecursion}
use Rattle.text_lines.specs.Contents.{contents_text}
use Rattle.session_log.proofs.sent.spells.Given as goal

abbrev pub invariant-loop-value : goal.invariant-loop-value
invariant-loop-value l = record {
  each : AllByRecursion (λ x. x < 2 ^ 64) (take l.value-index l.values);
  so_far : l.text ≡ contents_text (take l.value-index l.values) ++ l.rest;
}
