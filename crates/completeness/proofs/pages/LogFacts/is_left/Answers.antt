use Rattle.std.proofs.Common.{not, ◌||◌, ap, ap₂, ◌∙◌}
use Rattle.completeness.proofs.pages.LogFacts.is_left.Goals as goal

pub returns : goal.returns
returns c =
    let page = c.args.page in
    let seen = c.requires.seen in
    let released = c.holds.ensures ∙ ap (λ f. f page) seen.ledger.set_is in
    let placed = c.at.ensures ∙ ap (λ f. f page) seen.placed.values_are in
    let freed = c.at-2.ensures ∙ ap (λ f. f page) seen.freed.values_are in
    c.is_left.ensures ∙ ap₂ (λ b d. not (b || d)) released (ap₂ (λ b d. b || d) placed freed)
