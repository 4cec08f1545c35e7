-- The result of replaying a merging: the first record whose demand fails, and the guest's memory after all records.
use Rattle.std.specs.Prelude.{◌≡◌, List}
use Rattle.std.specs.Option.{MatchOption}
use Rattle.migration_types.specs.Memory.{Memory}
use Rattle.migration_types.specs.Receipts.{Name}
use Rattle.migration_types.specs.Sessions.{Recorded}
use Rattle.audit_model.specs.declared.home.Home.{Home}
use Rattle.audit_model.specs.declared.home.Home.TheVariants.{AtSource, Nowhere, AtTarget}
use Rattle.audit_model.specs.Mergings.{IsMerging}
use Rattle.audit_model.specs.World.{World, world_after, IsSafeOrder, IsFirstBroken}
use Rattle.page_store.specs.Frames.{memory_of}
use Rattle.merge_runs.specs.declared.outcome.Replay.{Replay}
use Rattle.merge_runs.specs.declared.outcome.MergeFault.{MergeFault}
use Rattle.merge_runs.specs.declared.outcome.MergeFault.TheVariants.{NoMerging, Memory as NoMemory}

-- the target's memory if the guest was resumed there, and otherwise the source's
abbrev pub final_memory_at : Home → World → Memory
final_memory_at AtSource w = w.source
final_memory_at Nowhere w = w.source
final_memory_at AtTarget w = w.target

-- the memory that the guest has, or had when it was halted
abbrev pub final_memory : World → Memory
final_memory w = final_memory_at w.home w

-- The order is a merging. The result has its first record whose demand fails, or none if it is safe, and the guest's
-- memory after all records.
pub record IsReplay (s : Recorded) (order : List Name) (r : Replay) : Type 0 where
  pub is_merging : IsMerging s order
  pub first_broken : MatchOption r.first_broken (IsSafeOrder s order) (IsFirstBroken s order)
  pub memory : memory_of r.memory ≡ final_memory (world_after s order)
  pub geometry : r.memory.geometry ≡ s.geometry

-- the order is not a merging, or memory runs out for its replay
abbrev pub IsMergeFault : Recorded → List Name → MergeFault → Type 0
IsMergeFault s order NoMerging = IsMerging s order → ⊥
IsMergeFault s order NoMemory = IsMerging s order
