use Rattle.std.proofs.Common.{◌≡◌, None, sym, ◌∙◌}
use Rattle.page_store.specs.Tables.{values}
use Rattle.page_store.proofs.Noting.{none_is, noted_is}
use Rattle.page_store.proofs.tables.Table+Option+u32.note.Goals as goal

pub returns-then-is_none : goal.returns-then-is_none
returns-then-is_none c =
    let none : values c.args.self.now c.args.page ≡ None = sym c.at.ensures ∙ none_is c.at.result c.if-is_none.ensures in
    record {
      pages = c.set.ensures.pages;
      values_are = c.set.ensures.values_are ∙ noted_is c.args.page c.args.number (values c.args.self.now) none;
    }
