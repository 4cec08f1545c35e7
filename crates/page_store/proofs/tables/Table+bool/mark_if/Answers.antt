use Rattle.std.proofs.Common.{refl, ap, sym, ◌∙◌}
use Rattle.page_store.specs.Tables.{marked_if, values}
use Rattle.page_store.proofs.Noting.{marked_is, unmarked_is}
use Rattle.page_store.proofs.tables.Table+bool.mark_if.Goals as goal

pub returns-then-test : goal.returns-then-test
returns-then-test c =
    let at = values c.args.self.now in
    record {
      pages = c.set.ensures.pages;
      values_are = c.set.ensures.values_are ∙ marked_is c.args.page at ∙ ap (λ b. marked_if b c.args.page at) (sym c.if-test.true);
    }

pub returns-else-test : goal.returns-else-test
returns-else-test c =
    let at = values c.args.self.now in
    record {
      pages = refl;
      values_are = unmarked_is c.args.page at ∙ ap (λ b. marked_if b c.args.page at) (sym c.if-test.false);
    }
