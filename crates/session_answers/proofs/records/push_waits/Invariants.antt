use Rattle.std.proofs.Common.{◌≡◌, ◌++◌, take}
use Rattle.session_answers.specs.RecordsText.{waiting_parts}
use Rattle.session_answers.proofs.records.push_waits.Given as goal

abbrev pub invariant-loop-waiting : goal.invariant-loop-waiting
invariant-loop-waiting l = l.parts.items ≡ l.fn.parts.items ++ waiting_parts (take l.waiting-index l.waits)
