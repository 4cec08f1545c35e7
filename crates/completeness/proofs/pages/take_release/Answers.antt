use Rattle.std.proofs.Common.{sym, subst}
use Rattle.migration_types.specs.declared.records.GuestRec.{GuestRec}
use Rattle.audit_model.specs.declared.home.Home.{Home}
use Rattle.audit_model.specs.declared.home.Home.TheVariants.{AtTarget}
use Rattle.page_store.specs.Tables.{values, IsWith}
use Rattle.completeness.specs.inner.Walks.{freed_by}
use Rattle.completeness.proofs.pages.take_release.Goals as goal

pub returns-in-AtTarget-Release : goal.returns-in-AtTarget-Release
returns-in-AtTarget-Release c =
    let at = values c.args.freed.now in
    let w = c.in-AtTarget-Release in
    subst (λ (h : Home). IsWith c.args.freed.now c.set.new.self (freed_by h c.args.rec.now at)) (sym w.is-0)
    (subst (λ (r : GuestRec). IsWith c.args.freed.now c.set.new.self (freed_by AtTarget r at)) (sym w.is-1) c.set.ensures)
