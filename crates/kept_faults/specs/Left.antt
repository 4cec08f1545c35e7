-- What is left of logs that end early, once they are cut to a front.
use Rattle.std.specs.Prelude.{Bool, true, false, ◌==◌, ◌&&◌, slice_get, if◌then◌else◌}
use Rattle.migration_types.specs.declared.records.LogName.TheVariants.{Source}
use Rattle.migration_types.specs.declared.records.SourceRec.{SourceRec}
use Rattle.migration_types.specs.declared.records.SourceRec.TheVariants.{Halted}
use Rattle.migration_types.specs.Sessions.{Recorded, IsSession}
use Rattle.audit_model.specs.Fitting.{Fits}
use Rattle.audit_model.specs.Shape.{passes, IsRightShape}
use Rattle.audit_model.specs.Faults.{HasNoPageFault}
use Rattle.audit_model.specs.Mergings.{HasMerging, Cursors}
use Rattle.audit_model.specs.World.{IsSafe}
use Rattle.recorder_files.specs.Fronts.{IsFront, cut_to}

-- A session of any size that fits its machine, has the right shape and has a merging. No record has a fault of its page.
pub record HasNoFault (s : Recorded) : Type 0 where
  pub fits : Fits s
  pub shape : IsRightShape s
  pub merging : HasMerging s
  pub clean : HasNoPageFault s

-- whether it says that the guest has halted
abbrev pub is_halted : SourceRec → Bool
is_halted (Halted halt) = true
is_halted _ = false

-- whether the front has nothing of the source's log but `halted`
abbrev pub is_lone : Recorded → Cursors → Bool
is_lone s c = (c Source == 1) && passes is_halted (slice_get s.source 0)

-- the front without such a `halted`, which tells nothing
abbrev pub without_lone : Recorded → Cursors → Cursors
without_lone s c Source = if is_lone s c then 0 else c Source
without_lone s c log = c log

-- what is left of the logs
abbrev pub left_of : Cursors → Recorded → Recorded
left_of c s = cut_to (without_lone s c) s

-- an unsafe session of the right shape with a merging, and a front of it that is safe
pub record HasSafeFront : Type 0 where
  pub whole : Recorded
  pub cursors : Cursors
  pub front : IsFront whole cursors
  pub is_session : IsSession whole
  pub shape : IsRightShape whole
  pub merging : HasMerging whole
  pub is_unsafe : IsSafe whole → ⊥
  pub is_safe : IsSafe (cut_to cursors whole)
