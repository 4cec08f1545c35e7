use Rattle.std.proofs.Common.{rules, ap}
use Rattle.link_book.specs.Links.{Linked}
use Rattle.book_events.proofs.Done.{pop_done}
use Rattle.book_events.proofs.paging.pager_pop.Goals as goal

pub returns-clause-comes : goal.returns-clause-comes
returns-clause-comes c = record {
  ok = search rules;
  told = pop_done _ _ _ _ _ c.in-Some.ensures.oldest (ap (λ (l : Linked). l.part) c.pop_down.ensures.rest);
  full = search rules;
  memory = search rules;
  err = search rules;
}
