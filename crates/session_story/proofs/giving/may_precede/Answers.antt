use Rattle.std.proofs.Common.{◌≡◌, List, Some, None, length, sym, ap, ◌∙◌}
use Rattle.migration_types.specs.declared.records.PagerRec.{PagerRec}
use Rattle.page_facts.specs.Tables.{first_before}
use Rattle.session_story.specs.inner.Questions.{knows_behind}
use Rattle.session_story.proofs.Givers.{all_precede, precede_known}
use Rattle.session_story.proofs.giving.may_precede.Goals as goal

pub returns-in-Some : goal.returns-in-Some
returns-in-Some c =
    let s = c.args.session.now in
    let at : Some c.in-Some.known ≡ first_before (λ m. knows_behind c.args.n) s.pager (length s.pager) = c.in-Some.ensures ∙ ap (λ (log : List PagerRec). first_before (λ m. knows_behind c.args.n) log (length log)) c.pager.ensures in
    precede_known s c.args.n c.in-Some.known (sym at) c.args.place

pub returns-in-None : goal.returns-in-None
returns-in-None c =
    let s = c.args.session.now in
    let at : None ≡ first_before (λ m. knows_behind c.args.n) s.pager (length s.pager) = c.in-None.ensures ∙ ap (λ (log : List PagerRec). first_before (λ m. knows_behind c.args.n) log (length log)) c.pager.ensures in
    all_precede s c.args.n (sym at) c.args.place
