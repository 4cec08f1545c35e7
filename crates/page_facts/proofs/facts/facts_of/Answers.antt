use Rattle.std.proofs.Common.{ℕ, Option, length, sym, ap, ◌∙◌}
use Rattle.std.specs.Prelude.{is_some}
use Rattle.page_facts.specs.Judged.{is_wrong_read, is_wrong_send, is_altered}
use Rattle.page_facts.specs.Moved.{is_again}
use Rattle.page_facts.proofs.Listing.{some_is_first}
use Rattle.page_facts.proofs.facts.facts_of.Goals as goal

pub returns : goal.returns
returns c =
    let s = c.args._session.now in
    let page = c.args._page in
    let are = c.requires in
    let there = λ (o : Option ℕ). is_some o in
    record {
      wrong_read = c.is_some.ensures ∙ ap there are.wrong_read ∙ sym (some_is_first (is_wrong_read s page) s.guest (length s.guest));
      wrong_send = c.is_some-2.ensures ∙ ap there are.wrong_send ∙ sym (some_is_first (is_wrong_send s page) s.source (length s.source));
      placement = are.placement;
      sent = are.sent;
      again = c.is_some-3.ensures ∙ ap there are.again ∙ sym (some_is_first (is_again s page) s.pager (length s.pager));
      altered = c.is_some-4.ensures ∙ ap there are.altered ∙ sym (some_is_first (is_altered s page) s.pager (length s.pager));
      touch = are.touch;
      releases = are.releases;
      look = are.look;
    }
