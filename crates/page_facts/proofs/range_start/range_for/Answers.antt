use Rattle.std.proofs.Common.{◌≡◌, ◌+◌, ◌-◌, List, ◌∷◌, drop, sym, ap, ◌∙◌, subst, arith}
use Rattle.std.proofs.lemmas.List.{drop_more}
use Rattle.migration_types.specs.declared.pages.InitPage.{InitPage}
use Rattle.page_facts.specs.Begun.{AreBegun}
use Rattle.page_facts.proofs.Begun.{begun_more, begun_range}
use Rattle.page_facts.proofs.range_start.range_for.Goals as goal

pub loop-left-preserved : goal.loop-left-preserved
loop-left-preserved c =
    let s = c.args.session.now in
    let init = c.init-init.result.now in
    let left = c.loop-left.left in
    let some = c.loop-left-test.true in
    let le = c.loop-left.invariant.within in
    let given = c.index-init-left.result in
    let next : (left - 1) + 1 ≡ left = omega (arith, some) in
    let front : given ∷ drop left init ≡ drop (left - 1) init =
    sym (drop_more init (left - 1) given (omega (arith, some, le)) ∙ ap (λ (x : InitPage). x ∷ drop ((left - 1) + 1) init) (sym c.index-init-left.is) ∙ ap (λ k. given ∷ drop k init) next) in
    record {
      within = omega (arith, le);
      begun = subst (λ (xs : List InitPage). AreBegun s c.args.first c.args.count xs c.give.new.range) front (begun_more s c.args.first c.args.count given (drop left init) c.loop-left.range c.give.new.range c.give.ensures c.loop-left.invariant.begun);
    }

pub returns-clause-range : goal.returns-clause-range
returns-clause-range c =
    let s = c.args.session.now in
    let stop = c.loop-left-test.false in
    let none : c.loop-left.left ≡ 0 = omega (arith, stop) in
    let all : drop c.loop-left.left c.init-init.result.now ≡ s.init = ap (λ k. drop k c.init-init.result.now) none ∙ c.init-init.ensures in
    begun_range s c.args.first c.args.count c.loop-left.range c.requires.within (subst (λ (xs : List InitPage). AreBegun s c.args.first c.args.count xs c.loop-left.range) all c.loop-left.invariant.begun)
