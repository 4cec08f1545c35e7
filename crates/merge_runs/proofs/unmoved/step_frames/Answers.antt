use Rattle.std.proofs.Common.{sym, ap, ◌∙◌}
use Rattle.migration_types.specs.declared.records.GuestRec.{GuestRec}
use Rattle.flat_machine.specs.Machines.{memory_after}
use Rattle.page_store.specs.Frames.{memory_of}
use Rattle.merge_runs.proofs.unmoved.step_frames.Goals as goal

pub returns-in-Write : goal.returns-in-Write
returns-in-Write c = record {
  geometry = c.write.ensures.geometry;
  memory_is = c.write.ensures.memory_is ∙ ap (λ (r : GuestRec). memory_after r (memory_of c.args.frames.now)) (sym c.in-Write.is);
}

pub returns-in-Release : goal.returns-in-Release
returns-in-Release c = record {
  geometry = c.release.ensures.geometry;
  memory_is = c.release.ensures.memory_is ∙ ap (λ (r : GuestRec). memory_after r (memory_of c.args.frames.now)) (sym c.in-Release.is);
}
