use Rattle.std.proofs.Common.{◌≡◌, ℕ, ◌+◌, ◌-◌, ap, subst, arith}
use Rattle.migration_types.specs.Extents.{Extent}
use Rattle.page_facts.proofs.question.complete.Goals as goal

pub returns : goal.returns
returns g c =
    let m = g.Q.Question in
    let q = c.args.question.now in
    let s = c.args.session.now in
    let count = c.args.part.count in
    let left = c.pages-pages.result - count in
    let low = subst (λ (k : ℕ). m.IsAnswer q s k count c.args.part.answer) c.requires.first c.requires.part.is_answer in
    let here : count ≡ 0 + count = omega arith in
    let high = subst (λ (k : ℕ). m.IsAnswer q s k left c.in_ok-rest.rest) here c.in_ok-rest.ensures in
    let whole : count + left ≡ s.geometry.pages = omega (arith, c.if-count-pages.false, c.pages-pages.ensures, ap (λ (e : Extent). e.pages) c.geometry.ensures) in
    subst (λ (k : ℕ). m.IsAnswer q s 0 k c.add.new.answer) whole (c.in_ok-add.ensures s 0 count left low high)
