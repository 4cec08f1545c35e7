use Rattle.std.proofs.Common.{subst}
use Rattle.std.proofs.lemmas.List.{take_all}
use Rattle.migration_types.specs.Pages.{AreInitPages}
use Rattle.guest_script.proofs.Pages.{page_more, page_wrong}
use Rattle.guest_script.proofs.script_fault.first_wrong_page.Goals as goal

pub returns-then-not-page_fits : goal.returns-then-not-page_fits
returns-then-not-page_fits c = page_wrong c.args.geometry c.args.init.now c.loop-place.place c.index-init-place.result c.loop-place.least c.loop-place-test.true c.index-init-place.is c.loop-place.invariant c.if-not-page_fits.ensures

pub loop-place-preserved : goal.loop-place-preserved
loop-place-preserved c =
    let more = page_more c.args.geometry c.args.init.now c.loop-place.place c.index-init-place.result c.loop-place.least c.loop-place-test.true c.index-init-place.is c.loop-place.invariant c.if-not-page_fits.ensures in
    rw c.number-least.ensures.value more

pub returns : goal.returns
returns c = subst (AreInitPages c.args.geometry) (take_all c.loop-place.place c.args.init.now c.loop-place-test.false) c.loop-place.invariant.fit
