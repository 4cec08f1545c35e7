use Rattle.std.proofs.Common.{sym, subst}
use Rattle.migration_events.specs.declared.ops.Op.{Op}
use Rattle.page_store.specs.Frames.{memory_of}
use Rattle.flat_machine.specs.Machines.{IsAfter}
use Rattle.target_side.specs.inner.Records.{record_of}
use Rattle.target_side.proofs.guest.perform.Goals as goal

pub returns-in-Write-clause-machine : goal.returns-in-Write-clause-machine
returns-in-Write-clause-machine c = subst (λ (o : Op). IsAfter (record_of c.args.v o (memory_of c.args.machine.now.frames)) c.args.machine.now c.write.new.self) (sym c.in-Write.is) c.write.ensures

pub returns-in-Release-clause-machine : goal.returns-in-Release-clause-machine
returns-in-Release-clause-machine c = subst (λ (o : Op). IsAfter (record_of c.args.v o (memory_of c.args.machine.now.frames)) c.args.machine.now c.release.new.self) (sym c.in-Release.is) c.release.ensures
