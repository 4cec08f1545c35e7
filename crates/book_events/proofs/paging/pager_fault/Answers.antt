use Rattle.std.proofs.Common.{rules, ap, ◌∙◌}
use Rattle.target_side.specs.Kept.{part_of as target_of}
use Rattle.target_side.specs.PagerLists.{part_of}
use Rattle.target_side.specs.PagerPart.{Paged}
use Rattle.book_events.proofs.Done.{fault_done}
use Rattle.book_events.proofs.Machines.{next_fault_on}
use Rattle.book_events.proofs.paging.pager_fault.Goals as goal

pub returns-clause-machine : goal.returns-clause-machine
returns-clause-machine c =
    let stays = next_fault_on (part_of c.args.pager.now) (target_of c.args.target.now) in
    (ap (λ (r : Paged). r.pager.geometry) c.in_ok-next_fault.ensures.ok ∙ stays, c.next_fault.ensures.machine)

pub returns-clause-comes : goal.returns-clause-comes
returns-clause-comes c = record {
  ok = search rules;
  told = fault_done _ _ _ _ c.in_ok-next_fault.ensures.ok (c.has_fault.ensures.some (search rules));
  full = search rules;
  memory = search rules;
  err = search rules;
}
