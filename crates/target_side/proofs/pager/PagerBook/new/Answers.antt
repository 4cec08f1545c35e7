use Rattle.std.proofs.Common.{sym, ◌∙◌, subst, arith}
use Rattle.target_side.specs.PagerLists.{IsKept}
use Rattle.target_side.proofs.Sounds.{new_part, new_kept}
use Rattle.target_side.proofs.pager.PagerBook.new.Goals as goal

pub returns : goal.returns
returns c =
    new_part c.args.geometry c.new.result.items c.in_ok-placed.placed c.in_ok-settled.settled c.new-2.result.items c.new-3.result.items c.new-4.result c.in_ok-wants.wants
    c.new.ensures.items c.in_ok-placed.ensures.values c.in_ok-settled.ensures.values c.new-2.ensures.items c.new-3.ensures.items c.new-4.ensures c.in_ok-wants.ensures.values

pub invariant_of-result : goal.invariant_of-result
invariant_of-result c = record {
  kept = subst IsKept (sym (returns c)) (new_kept c.args.geometry);
  placed_pages = c.in_ok-placed.ensures.pages ∙ c.pages-pages.ensures;
  settled_pages = c.in_ok-settled.ensures.pages ∙ c.pages-pages.ensures;
  wants_pages = c.in_ok-wants.ensures.pages ∙ c.pages-pages.ensures;
  marked_pages = c.in_ok-marks.ensures.pages ∙ c.pages-pages.ensures;
  marked = c.in_ok-marks.ensures.values;
  in_range = omega arith;
  passed = λ p lt. absurd (omega arith);
}
