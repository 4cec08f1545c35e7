use Rattle.std.proofs.Common.{◌++◌, codes}
use Rattle.session_answers.proofs.Growing.{next_added}
use Rattle.session_answers.proofs.lists.push_more.Goals as goal

pub loop-item-preserved : goal.loop-item-preserved
loop-item-preserved g c = next_added (λ x. codes "," ++ g.I.Item.written x) c.args.out.now.items c.loop-item.out.items c.push_next.new.out.items c.args.more.now c.loop-item.item-index c.item-item.result c.loop-item-test.true c.item-item.is c.loop-item.invariant c.in_ok-push_next.ensures
