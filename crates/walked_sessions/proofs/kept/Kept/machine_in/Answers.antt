use Rattle.std.proofs.Common.{◌∙◌, ap, refl, subst}
use Rattle.migration_types.specs.Extents.{Extent, IsExtent}
use Rattle.walked_sessions.specs.Made.{sized}
use Rattle.walked_sessions.proofs.Making.{fits_kept, kept_fits, sized_is}
use Rattle.walked_sessions.proofs.Needing.{not_true}
use Rattle.walked_sessions.proofs.kept.Kept.machine_in.Goals as goal

pub returns-then-fits : goal.returns-then-fits
returns-then-fits c = λ d kept.
    let at = c.in-Ok.ensures.0 ∙ sized_is c.args.size c.args.self.now.machine c.pages.result c.cells.result c.pages.ensures c.cells.ensures in
    let extent = subst (λ (m : Extent). IsExtent m) at c.in-Ok.ensures.1 in
    let within = c.if-fits.ensures.0 refl in (
      at ∙ ap (λ (m : Extent). sized c.args.size m) kept.machine,
      kept_fits c.args.self.now d c.args.version c.args.size kept (c.if-not-is_in.ensures.0 refl) extent within.0 within.1 within.2 within.3 within.4,
    )

pub returns-else-fits : goal.returns-else-fits
returns-else-fits c = λ d kept fits. not_true (c.if-fits.ensures.1 (fits_kept c.args.self.now d c.args.version c.args.size kept fits))
