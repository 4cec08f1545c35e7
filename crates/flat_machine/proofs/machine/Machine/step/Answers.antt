use Rattle.std.proofs.Common.{sym, subst}
use Rattle.migration_types.specs.declared.records.GuestRec.{GuestRec}
use Rattle.flat_machine.specs.Machines.{IsAfter}
use Rattle.flat_machine.proofs.machine.Machine.step.Goals as goal

pub returns-in-Write : goal.returns-in-Write
returns-in-Write c = subst (λ (r : GuestRec). IsAfter r c.args.self.now c.write.new.self) (sym c.in-Write.is) c.write.ensures

pub returns-in-Release : goal.returns-in-Release
returns-in-Release c = subst (λ (r : GuestRec). IsAfter r c.args.self.now c.release.new.self) (sym c.in-Release.is) c.release.ensures
