use Rattle.std.proofs.Common.{sym}
use Rattle.commands.proofs.several.asked_several.Goals as goal

pub returns-clause-told : goal.returns-clause-told
returns-clause-told g c = rw (sym c.as_slice.ensures.value) (rw (c.list_ask.ensures, c.listing_of-listing.ensures) at c.perform_several.ensures.told)
