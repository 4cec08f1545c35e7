use Rattle.std.proofs.Common.{rules, ap}
use Rattle.link_book.specs.Links.{Linked}
use Rattle.book_events.proofs.Done.{send_told}
use Rattle.book_events.proofs.sending.source_tick.Goals as goal

pub returns-clause-comes : goal.returns-clause-comes
returns-clause-comes c = record {
  ok = search rules;
  told = send_told _ _ _ _ _ _ (ap (λ (l : Linked). l.part) c.in_ok-room.ensures.ok) c.offer.ensures.told;
  full = search rules;
  memory = search rules;
  err = search rules;
}
