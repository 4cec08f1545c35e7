use Rattle.std.proofs.Common.{ℕ, ◌≤◌, ◌||◌, true, List, length, ap, ◌∙◌, arith}
use Rattle.std.proofs.lemmas.List.{take_all}
use Rattle.page_store.specs.Tables.{values, with_value}
use Rattle.target_side.specs.PagerPart.{is_listed}
use Rattle.target_side.proofs.Listed.{marked_more}
use Rattle.target_side.proofs.marks.mark_all.Goals as goal

pub loop-page-preserved : goal.loop-page-preserved
loop-page-preserved c = record {
  pages = c.set.ensures.pages ∙ c.loop-page.invariant.pages;
  marked = c.set.ensures.values_are ∙ ap (with_value c.page-item.result true) c.loop-page.invariant.marked ∙ marked_more c.args.pages.now (values c.args.marks.now) c.loop-page.page-index c.page-item.result c.loop-page-test.true c.page-item.is;
}

pub returns-clause-marked : goal.returns-clause-marked
returns-clause-marked c =
    let past : length c.args.pages.now ≤ c.loop-page.page-index = omega arith in
    c.loop-page.invariant.marked ∙ ap (λ (xs : List ℕ). λ page. is_listed page xs || values c.args.marks.now page) (take_all c.loop-page.page-index c.args.pages.now past)
