use Rattle.std.proofs.Common.{◌≡◌, ◌++◌, take}
use Rattle.session_answers.specs.JsonText.{after_commas}
use Rattle.session_answers.proofs.lists.push_more.Given as goal

abbrev pub invariant-loop-item : goal.invariant-loop-item
invariant-loop-item g l = l.out.items ≡ l.fn.out.items ++ after_commas g.I.Item.written (take l.item-index l.more)
