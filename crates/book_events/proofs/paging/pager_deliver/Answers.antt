use Rattle.std.proofs.Common.{rules, ap, ◌∙◌}
use Rattle.target_side.specs.Kept.{part_of as target_of}
use Rattle.target_side.specs.PagerLists.{part_of}
use Rattle.target_side.specs.PagerPart.{Paged}
use Rattle.book_events.proofs.Done.{deliver_done}
use Rattle.book_events.proofs.Machines.{deliver_on}
use Rattle.book_events.proofs.paging.pager_deliver.Goals as goal

pub returns-clause-machine : goal.returns-clause-machine
returns-clause-machine c =
    let stays = deliver_on (part_of c.args.pager.now) (target_of c.args.target.now) in
    (ap (λ (r : Paged). r.pager.geometry) c.in_ok-deliver.ensures.ok ∙ stays, c.deliver.ensures.machine)

pub returns-clause-comes : goal.returns-clause-comes
returns-clause-comes c = record {
  ok = search rules;
  told = deliver_done _ _ _ _ _ c.in_ok-deliver.ensures.ok (c.has_delivery.ensures.some (search rules));
  full = search rules;
  memory = search rules;
  err = search rules;
}
