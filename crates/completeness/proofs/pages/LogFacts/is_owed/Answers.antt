use Rattle.std.proofs.Common.{not, ap, ◌∙◌}
use Rattle.completeness.proofs.pages.LogFacts.is_owed.Goals as goal

pub returns : goal.returns
returns c = ap not (c.holds.ensures ∙ ap (λ f. f c.args.page) c.requires.seen.ledger.set_is)
