use Rattle.std.proofs.Common.{◌≡◌, ℕ, ◌+◌, ◌∙◌, sym, ap, Option}
use Rattle.page_facts.proofs.findings.findings_at.Goals as goal

pub returns : goal.returns
returns c =
    let j = c.requires.judged in
    let k = c.args.index in
    let at = j.range.seen.each k c.item_at-seen.result c.item_at-seen.ensures in
    let number = λ (f : ℕ → Option ℕ). f c.new-page.result in
    record {
      wrong_read = at.wrong;
      wrong_send = j.sent.wrong.each k c.item_at.result c.item_at.ensures;
      placement = j.placed.once.each k c.item_at-2.result c.item_at-2.ensures;
      sent = j.placed.sent.each k c.item_at-2.result c.item_at-3.result c.item_at-2.ensures c.item_at-3.ensures;
      again = j.placed.again.each k c.item_at-4.result c.item_at-4.ensures;
      altered = j.placed.altered.each k c.item_at-5.result c.item_at-5.ensures;
      touch = at.touch;
      releases = at.releases;
      look = c.at.ensures ∙ ap number c.requires.looks.values_are ∙ ap (λ (p : ℕ). Rattle.page_facts.specs.Looks.first_look c.args.session.now (Rattle.std.proofs.Common.length c.args.session.now.guest) p) c.new-page.ensures;
      released = j.released.each k c.item_at-6.result c.item_at-6.ensures;
    }
