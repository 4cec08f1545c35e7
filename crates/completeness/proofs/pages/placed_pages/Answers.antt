use Rattle.std.proofs.Common.{◌≡◌, List, length, ap, ◌∙◌, arith}
use Rattle.migration_types.specs.declared.records.PagerRec.{PagerRec}
use Rattle.migration_types.specs.Extents.{Extent}
use Rattle.audit_model.specs.Shape.{earlier, is_placement_of}
use Rattle.page_facts.proofs.Reading.{read_at}
use Rattle.completeness.proofs.Walking.{any_of_all, placed_on}
use Rattle.completeness.proofs.pages.placed_pages.Goals as goal

pub loop-n-init : goal.loop-n-init
loop-n-init c = record {
  pages_are = c.in_ok-placed.ensures.pages ∙ c.pages.ensures ∙ ap (λ (e : Extent). e.pages) c.geometry.ensures;
  values_are = c.in_ok-placed.ensures.values;
}

pub loop-n-preserved : goal.loop-n-preserved
loop-n-preserved c =
    let s = c.args.session.now in
    let n = c.loop-n.n in
    let rec = c.index-pager-n.result in
    let is = read_at c.pager-pager.result.now s.pager n rec c.pager-pager.ensures c.loop-n-test.true c.index-pager-n.is in
    placed_on s n rec c.loop-n.placed c.take_placement.new.placed is c.loop-n.invariant c.take_placement.ensures

pub returns : goal.returns
returns c =
    let s = c.args.session.now in
    let n = c.loop-n.n in
    let all = ap (λ (xs : List PagerRec). length xs) c.pager-pager.ensures in
    let auto = c.loop-n.auto in
    let end : n ≡ length s.pager = omega (arith, all, c.loop-n-test.false, auto.n-end) in
    record {
      pages_are = c.loop-n.invariant.pages_are;
      values_are = c.loop-n.invariant.values_are ∙ (λ i page. (ap (λ k. earlier (is_placement_of page) s.pager k) end ∙ any_of_all (is_placement_of page) s.pager) i);
    }
