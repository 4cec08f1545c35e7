use Rattle.std.proofs.Common.{◌≡◌, ◌-◌, false, length, ap, ◌∙◌, subst, arith}
use Rattle.bubbling.specs.Bubbling.{marked}
use Rattle.bubbling.proofs.unsent.Unsent.end_below.Goals as goal

pub returns-clause-none : goal.returns-clause-none
returns-clause-none c = λ q ge lt.
    let marks = c.deref.result.now in
    let is : marks ≡ c.args.self.now = c.deref.ensures.value ∙ c.self.view_is in
    let whole = ap length is in
    let pages = c.pages-pages.ensures.pages in
    let none = c.first_marked.ensures.none (length marks - 1 - q) (omega arith) (omega arith) in
    let same : length marks - 1 - (length marks - 1 - q) ≡ q = omega arith in
    subst (λ m. marked m q ≡ false) is (subst (λ k. marked marks k ≡ false) same none)
