use Rattle.std.proofs.Common.{sym, subst, ◌∙◌}
use Rattle.migration_types.specs.declared.records.PagerRec.{PagerRec}
use Rattle.page_store.specs.Tables.{values, IsWith}
use Rattle.completeness.specs.inner.Walks.{placed_by}
use Rattle.completeness.proofs.Walking.{marked_placed}
use Rattle.completeness.proofs.pages.take_placement.Goals as goal

pub returns-in-Place : goal.returns-in-Place
returns-in-Place c =
    let at = values c.args.placed.now in
    subst (λ (r : PagerRec). IsWith c.args.placed.now c.set.new.self (placed_by r at)) (sym c.in-Place.is) (record {
      pages = c.set.ensures.pages;
      values_are = c.set.ensures.values_are ∙ marked_placed c.in-Place.page at;
    })

pub returns-in-Zero : goal.returns-in-Zero
returns-in-Zero c =
    let at = values c.args.placed.now in
    subst (λ (r : PagerRec). IsWith c.args.placed.now c.set-in-Zero.new.self (placed_by r at)) (sym c.in-Zero.is) (record {
      pages = c.set-in-Zero.ensures.pages;
      values_are = c.set-in-Zero.ensures.values_are ∙ marked_placed c.in-Zero.page at;
    })
