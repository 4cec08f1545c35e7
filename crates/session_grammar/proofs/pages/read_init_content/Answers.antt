use Rattle.std.proofs.Common.{refl, sym, subst, ◌∙◌}
use Rattle.migration_types.specs.Pages.{AreZeros}
use Rattle.text_lines.proofs.Cells.{contents_same}
use Rattle.session_grammar.proofs.pages.read_init_content.Goals as goal

pub returns-then-are_zeros-clause-refused : goal.returns-then-are_zeros-clause-refused
returns-then-are_zeros-clause-refused c = λ _ xs has e.
    let found = c.in-Ok.ensures.found in
    let same = contents_same c.in-Ok.values xs found.0.each has.content.each (found.0.count ∙ sym has.content.count) (sym found.1 ∙ e) in
    has.not_zeros (subst AreZeros (c.as_slice.ensures ∙ same) (c.if-are_zeros.ensures.0 refl))
