use Rattle.std.proofs.Common.{◌≡◌, ℕ, length, Some, None, sym, subst, ◌∙◌, arith}
use Rattle.page_facts.specs.Judged.{is_late_touch}
use Rattle.page_facts.proofs.Before.{first_some}
use Rattle.session_story.specs.Looks.{IsFurthestLook}
use Rattle.session_story.proofs.faults.look_before.Goals as goal

pub greatest_look-requires : goal.greatest_look-requires
greatest_look-requires c =
    let s = c.args.session.now in
    let page = c.args.page.now in
    let first = first_some (is_late_touch s page.page) s.guest (length s.guest) c.in-Some.first (sym c.requires.found.touch ∙ c.in-Some.is) in
    let below = first.below in
    omega (arith, below)

pub returns-in-Some : goal.returns-in-Some
returns-in-Some c = λ first is.
    let both : Some c.in-Some.first ≡ Some first = sym c.in-Some.is ∙ c.requires.found.touch ∙ is in
    let same : c.in-Some.first ≡ first = cc in
    subst (λ (n : ℕ). IsFurthestLook c.args.session.now n c.greatest_look.result) same c.greatest_look.ensures

pub returns-in-None : goal.returns-in-None
returns-in-None c = λ first is.
    let both : None ≡ Some first = sym c.in-None.is ∙ c.requires.found.touch ∙ is in
    absurd (cc)
