-- The initial pages of a session are pages of its machine.
use Rattle.std.proofs.Common.{List, [], ◌∷◌}
use Rattle.std.specs.List.{AllByRecursion}
use Rattle.migration_types.specs.declared.pages.InitPage.{InitPage}
use Rattle.migration_types.specs.Extents.{Extent}
use Rattle.migration_types.specs.Pages.{InitPageFits}
use Rattle.page_store.specs.Frames.{IsPageOf}

pub init_pages : (e : Extent) (init : List InitPage) → AllByRecursion (InitPageFits e) init → AllByRecursion (IsPageOf e) init
init_pages e [] fits = tt
init_pages e (given ∷ init) fits = (record { page = fits.0.page; cells = fits.0.content.count }, init_pages e init fits.1)
