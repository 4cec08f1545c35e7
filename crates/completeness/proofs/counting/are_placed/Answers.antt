use Rattle.std.proofs.Common.{◌≡◌, ◌∙◌, ℕ, Bool, ap, sym, subst, true, false, arith}
use Rattle.completeness.specs.Complete.{is_page_left}
use Rattle.completeness.specs.inner.Least.{NonePass}
use Rattle.completeness.proofs.Left.{none_left, placed_came}
use Rattle.completeness.proofs.Walking.{none_more}
use Rattle.completeness.proofs.counting.are_placed.Goals as goal

pub loop-number-preserved : goal.loop-number-preserved
loop-number-preserved c =
    let is : c.at.result ≡ true = cc in
    none_more (is_page_left c.args.session.now) c.loop-number.number c.loop-number.invariant
    (subst (λ (n : ℕ). is_page_left c.args.session.now n ≡ false) c.new.ensures
    (placed_came c.args.session.now c.new.result (sym (ap (λ (f : ℕ → Bool). f c.new.result) c.requires.values_are) ∙ (sym c.at.ensures ∙ is))))

pub returns : goal.returns
returns c = λ placed.
    let pages : c.pages-number-end.result ≡ c.args.session.now.geometry.pages = c.pages-number-end.ensures ∙ ap (λ g. g.pages) c.geometry.ensures in
    none_left c.args.session.now c.args.session.now.geometry.pages (λ m lt. c.loop-number.invariant m (omega (arith, lt, pages, c.loop-number-test.false)))
