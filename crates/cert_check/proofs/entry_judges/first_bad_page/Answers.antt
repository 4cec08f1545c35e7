use Rattle.std.proofs.Common.{List, length, ap, subst, ◌∙◌}
use Rattle.std.proofs.lemmas.Result.{IfOk-weaker}
use Rattle.migration_types.specs.declared.cert.Entry.{Entry}
use Rattle.page_facts.specs.Entries.{AreJudged}
use Rattle.cert_check.proofs.RightEntries.{judged_all}
use Rattle.cert_check.proofs.entry_judges.first_bad_page.Goals as goal

pub first_wrong_entry-requires-clause-pages : goal.first_wrong_entry-requires-clause-pages
first_wrong_entry-requires-clause-pages g c = ap (λ (es : List Entry). length es) c.entries.ensures ∙ c.requires.pages

pub returns : goal.returns
returns g c =
    let s = c.args.session.now in
    let cert = c.args.cert.now in
    let pages = s.geometry.pages in
    IfOk-weaker c.first_wrong_entry.result _ _ (λ wrong h. judged_all s cert.entries pages wrong c.requires.pages (subst (λ (es : List Entry). AreJudged s es 0 pages wrong) c.entries.ensures h)) c.first_wrong_entry.ensures
