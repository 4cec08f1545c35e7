use Rattle.std.proofs.Common.{◌<◌, List, length, ap, sym, ◌∙◌, arith}
use Rattle.migration_types.specs.declared.records.PagerRec.{PagerRec}
use Rattle.page_facts.proofs.Reading.{read_at}
use Rattle.completeness.specs.Complete.{is_taken_left}
use Rattle.completeness.proofs.Walking.{left_at, none_more}
use Rattle.completeness.proofs.taken.first_taken.Goals as goal

pub returns-then-is_left : goal.returns-then-is_left
returns-then-is_left c =
    let s = c.args.session.now in
    let n = c.loop-n.n in
    let rec = c.index-pager-n.result in
    let all = ap (λ (xs : List PagerRec). length xs) c.pager-pager.ensures in
    let auto = c.loop-n.auto in
    let lt : n < length s.pager = omega (arith, all, c.loop-n-test.true) in
    let is = read_at c.pager-pager.result.now s.pager n rec c.pager-pager.ensures c.loop-n-test.true c.index-pager-n.is in
    let here = left_at s n rec c.in_ok-settled.settled.items c.index.result.now (omega (arith, auto.n)) lt is c.in_ok-settled.ensures c.index.ensures in
    record {
      is_below = lt;
      passes_test = here ∙ sym c.is_left.ensures ∙ c.if-is_left.true;
      is_least = c.loop-n.invariant;
    }

pub loop-n-preserved : goal.loop-n-preserved
loop-n-preserved c =
    let s = c.args.session.now in
    let n = c.loop-n.n in
    let rec = c.index-pager-n.result in
    let all = ap (λ (xs : List PagerRec). length xs) c.pager-pager.ensures in
    let auto = c.loop-n.auto in
    let lt : n < length s.pager = omega (arith, all, c.loop-n-test.true) in
    let is = read_at c.pager-pager.result.now s.pager n rec c.pager-pager.ensures c.loop-n-test.true c.index-pager-n.is in
    let here = left_at s n rec c.in_ok-settled.settled.items c.index.result.now (omega (arith, auto.n)) lt is c.in_ok-settled.ensures c.index.ensures in
    none_more (is_taken_left s) n c.loop-n.invariant (here ∙ sym c.is_left.ensures ∙ c.if-is_left.false)
