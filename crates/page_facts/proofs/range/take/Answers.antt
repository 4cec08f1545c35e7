use Rattle.std.proofs.Common.{sym, ◌∙◌}
use Rattle.page_facts.proofs.Ranging.{range_past}
use Rattle.page_facts.proofs.range.take.Goals as goal

pub returns-in-None-clause-range : goal.returns-in-None-clause-range
returns-in-None-clause-range c =
    let g = c.args.range.now in
    range_past c.args.session.now c.args.n c.args.rec.now c.requires.stands g c.late_after-range.result (sym c.page.ensures ∙ c.in-None.is) c.late_after-range.ensures c.requires.range
