use Rattle.std.proofs.Common.{◌≡◌, Option, ℕ, true, ap, sym, ◌∙◌}
use Rattle.std.proofs.lemmas.Result.{IfOk-weaker}
use Rattle.session_story.specs.Explained.{first_touch, is_used_by}
use Rattle.session_story.proofs.Causing.{explained, none_again, none_wrong, then_missing}
use Rattle.session_story.proofs.faults.explained_by.Goals as goal

pub returns-in-Some : goal.returns-in-Some
returns-in-Some c =
    let s = c.args.session.now in
    let t = c.args.page.now in
    let late : is_used_by (first_touch s t.page) c.args.read ≡ true = ap (λ (o : Option ℕ). is_used_by o c.args.read) (sym c.requires.story.found.touch) ∙ (sym c.is_used_by.ensures ∙ c.if-not-is_used_by.false) in
    IfOk-weaker c.given_by.result _ _ (explained s c.args.read t.page late) c.given_by.ensures

pub returns-in-None : goal.returns-in-None
returns-in-None c =
    let s = c.args.session.now in
    let t = c.args.page.now in
    let n = c.args.read in
    let late : is_used_by (first_touch s t.page) n ≡ true = ap (λ (o : Option ℕ). is_used_by o n) (sym c.requires.story.found.touch) ∙ (sym c.is_used_by.ensures ∙ c.if-not-is_used_by.false) in
    explained s n t.page late c.missing_by.result (then_missing s n t.page (none_wrong s n t.page c.in-None.ensures) (none_again s n t.page c.in-None.ensures) (λ place look given. c.in-None.ensures place given.gives) c.missing_by.result c.missing_by.ensures)
