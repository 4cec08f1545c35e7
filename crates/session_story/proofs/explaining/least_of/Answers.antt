use Rattle.std.proofs.Common.{◌+◌, List, [], ◌∷◌, ◌++◌, take, sym, ap, ◌∙◌, subst}
use Rattle.std.proofs.lemmas.List.{take_more}
use Rattle.page_facts.specs.declared.faulty.FaultyPage.{FaultyPage}
use Rattle.session_story.specs.Explained.{IsLeastOf}
use Rattle.session_story.specs.inner.Touched.{lesser}
use Rattle.session_story.proofs.Untouched.{least_more}
use Rattle.session_story.proofs.explaining.least_of.Goals as goal

pub loop-page-preserved : goal.loop-page-preserved
loop-page-preserved c =
    let found = c.args.found.now in
    let k = c.loop-page.page-index in
    let least = c.loop-page.least in
    let page = c.page-item.result in
    let more = take_more found k page c.loop-page-test.true ∙ ap (λ (p : FaultyPage). take k found ++ p ∷ []) (sym c.page-item.is) in
    subst (λ (f : FaultyPage). IsLeastOf (take (k + 1) found) f) (sym c.lesser.ensures)
    (subst (λ (xs : List FaultyPage). IsLeastOf xs (lesser least page)) (sym more) (least_more (take k found) least page c.loop-page.invariant))
