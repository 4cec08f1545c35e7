use Rattle.std.proofs.Common.{sym, subst}
use Rattle.migration_types.specs.declared.records.GuestRec.{GuestRec}
use Rattle.flat_machine.specs.Machines.{ledger_after}
use Rattle.balloon_ledger.specs.Released.{released, IsWith as HasReleased}
use Rattle.completeness.proofs.pages.take_change.Goals as goal

pub returns-in-Write : goal.returns-in-Write
returns-in-Write c = subst (λ (r : GuestRec). HasReleased c.args.ledger.now c.wrote.new.self (ledger_after r (released c.args.ledger.now))) (sym c.in-Write.is) c.wrote.ensures

pub returns-in-Release : goal.returns-in-Release
returns-in-Release c = subst (λ (r : GuestRec). HasReleased c.args.ledger.now c.release.new.self (ledger_after r (released c.args.ledger.now))) (sym c.in-Release.is) c.release.ensures
