use Rattle.std.proofs.Common.{rules, ap}
use Rattle.link_book.specs.Links.{Linked}
use Rattle.book_events.proofs.Done.{serve_done, serve_told}
use Rattle.book_events.proofs.sending.serve.Goals as goal

pub returns-in-Some-offered-clause-comes : goal.returns-in-Some-offered-clause-comes
returns-in-Some-offered-clause-comes c = record {
  ok = search rules;
  told = serve_told _ _ _ _ _ _ _ (ap (λ (l : Linked). l.part) c.in_ok-room.ensures.ok) (ap (λ (l : Linked). l.part) c.pop_up.ensures.rest) c.offer.ensures.told;
  full = search rules;
  memory = search rules;
  err = search rules;
}

pub returns-in-None-clause-comes : goal.returns-in-None-clause-comes
returns-in-None-clause-comes c = record {
  ok = search rules;
  told = serve_done _ _ _ _ _ _ (ap (λ (l : Linked). l.part) c.in_ok-room.ensures.ok) c.in-Some.ensures.oldest (ap (λ (l : Linked). l.part) c.pop_up.ensures.rest);
  full = search rules;
  memory = search rules;
  err = search rules;
}
