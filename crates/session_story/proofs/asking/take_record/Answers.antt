use Rattle.std.proofs.Common.{sym, subst, ◌∙◌}
use Rattle.migration_types.specs.declared.records.SourceRec.{SourceRec}
use Rattle.page_store.specs.Tables.{values, IsWith}
use Rattle.session_story.specs.inner.Asked.{asked_by}
use Rattle.session_story.proofs.Unasked.{marked_asked, unmarked_sent}
use Rattle.session_story.proofs.asking.take_record.Goals as goal

pub returns-in-Some : goal.returns-in-Some
returns-in-Some c = record {
  pages = c.set.ensures.pages;
  values_are = c.set.ensures.values_are ∙ marked_asked c.args.session.now c.args.rec.now c.in-Some.page (values c.args.asked.now) (sym c.asked_for.ensures ∙ c.in-Some.is);
}

pub returns-in-Send : goal.returns-in-Send
returns-in-Send c =
    let at = values c.args.asked.now in
    subst (λ (r : SourceRec). IsWith c.args.asked.now c.set-in-Send.new.self (asked_by c.args.session.now r at)) (sym c.in-Send.is) (record {
      pages = c.set-in-Send.ensures.pages;
      values_are = c.set-in-Send.ensures.values_are ∙ unmarked_sent c.args.session.now c.in-Send.page c.in-Send.contents at;
    })
