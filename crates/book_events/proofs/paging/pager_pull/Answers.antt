use Rattle.std.proofs.Common.{rules, ap}
use Rattle.link_book.specs.Links.{Linked}
use Rattle.book_events.proofs.Done.{pull_done}
use Rattle.book_events.proofs.paging.pager_pull.Goals as goal

pub returns-clause-comes : goal.returns-clause-comes
returns-clause-comes c = record {
  ok = search rules;
  told = pull_done _ _ _ _ _ c.in-Some.ensures.oldest (ap (λ (l : Linked). l.part) c.pop_lane.ensures.rest);
  full = search rules;
  memory = search rules;
  err = search rules;
}
