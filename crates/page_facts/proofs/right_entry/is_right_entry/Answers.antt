use Rattle.std.proofs.Common.{sym, ◌∙◌}
use Rattle.page_facts.proofs.RightEntry.{right_from, right_test}
use Rattle.page_facts.proofs.right_entry.is_right_entry.Goals as goal

pub returns : goal.returns
returns c =
    let s = c.args.session.now in
    let facts = c.args.facts.now in
    let entry = c.args.entry.now in
    (λ t. right_from s c.args.page facts c.requires entry (sym c.passes_tests.ensures ∙ t), λ right. c.passes_tests.ensures ∙ right_test s c.args.page facts c.requires entry right)
