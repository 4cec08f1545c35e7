use Rattle.std.proofs.Common.{refl, sym, subst}
use Rattle.migration_types.specs.declared.records.LogName.TheVariants.{Source, Pager}
use Rattle.walked_sessions.specs.Walks.{IsTakenBy}
use Rattle.walked_sessions.proofs.walking.taking.Goals as goal

pub returns-in-Up : goal.returns-in-Up
returns-in-Up c = record { by = Source; n = c.in-Up.taken; is = refl; taken = subst (IsTakenBy Source c.in-Up.taken) (sym c.in-Up.is) (refl, refl) }

pub returns-in-Down : goal.returns-in-Down
returns-in-Down c = record { by = Pager; n = c.in-Down.taken; is = refl; taken = subst (IsTakenBy Pager c.in-Down.taken) (sym c.in-Down.is) (refl, refl) }
