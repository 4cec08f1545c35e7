-- The state of a replay after some records of an order.
use Rattle.std.specs.Prelude.{◌≡◌, ℕ, Bool, List, [], ◌∷◌, ◌++◌, Option, Some, None, if◌then◌else◌}
use Rattle.std.specs.Option.{MatchOption}
use Rattle.migration_types.specs.declared.records.LogName.{LogName}
use Rattle.migration_types.specs.declared.records.LogName.TheVariants.{Guest, Source, Pager}
use Rattle.migration_types.specs.declared.records.GuestRec.{GuestRec}
use Rattle.migration_types.specs.declared.records.SourceRec.{SourceRec}
use Rattle.migration_types.specs.declared.records.PagerRec.{PagerRec}
use Rattle.migration_types.specs.Extents.{Extent}
use Rattle.migration_types.specs.Receipts.{Name}
use Rattle.migration_types.specs.Sessions.{Recorded}
use Rattle.audit_model.specs.Flat.{flat}
use Rattle.audit_model.specs.Mergings.{at_start, run_names}
use Rattle.audit_model.specs.Walks.{cursors_from}
use Rattle.audit_model.specs.World.{World, start, step, run_from, world_after, guest_step, pager_step, Demand}
use Rattle.page_store.specs.Frames.{Frames, memory_of}
use Rattle.merge_runs.specs.declared.replaying.Replaying.{Replaying}
use Rattle.merge_runs.specs.inner.Moving.{world_of, IsSized, IsMoved}
use Rattle.merge_runs.specs.inner.Demands.{guest_met, source_met, pager_met}
use Rattle.merge_runs.specs.inner.Unmoved.{frames_of, IsApart, IsUnmovedAfter, IsSized as IsUnmovedSized}

-- starting from a world, each of these records finds its demand met
abbrev pub AllMet : Recorded → World → List Name → Type 0
AllMet s w [] = Unit {0}
AllMet s w (name ∷ names) = Demand s name w × AllMet s (step s name w) names

-- of these records, the one with this name is the first whose demand fails
pub record Breaks (s : Recorded) (w : World) (names : List Name) (name : Name) : Type 0 where
  pub earlier : List Name
  pub later : List Name
  pub stands : names ≡ earlier ++ name ∷ later
  pub met : AllMet s w earlier
  pub fails : Demand s name (run_from s w earlier) → ⊥

-- the first broken record, or this one if there was none
abbrev pub or_this : Option Name → Name → Option Name
or_this None name = Some name
or_this (Some first) name = Some first

-- the first broken record after one more
abbrev pub noted : Bool → Option Name → Name → Option Name
noted met first name = if met then first else or_this first name

-- the frames of the machine that never moved
abbrev pub unmoved_frames : Replaying → Frames
unmoved_frames r = frames_of r.unmoved r.moving.source.frames

-- the state of a replay is of this geometry
pub record AreSized (e : Extent) (r : Replaying) : Type 0 where
  pub moving : IsSized e r.moving
  pub unmoved : IsUnmovedSized e r.unmoved

-- the state of a replay after these records
pub record IsReplaying (s : Recorded) (order : List Name) (r : Replaying) : Type 0 where
  pub world : world_of r.moving ≡ world_after s order
  pub flat : memory_of (unmoved_frames r) ≡ flat s (cursors_from at_start order Guest)
  pub apart : IsApart r.unmoved r.moving.home
  pub broken : MatchOption r.first_broken (AllMet s (start s) order) (Breaks s (start s) order)

-- the record with this name, the next one of its log, was replayed
abbrev pub HasOne : Recorded → Name → Replaying → Replaying → Type 0
HasOne s name old new =
    (order : List Name) → cursors_from at_start order name.0 ≡ name.1 → IsReplaying s order old → IsReplaying s (order ++ name ∷ []) new

-- the next records of a log were replayed
abbrev pub HasRun : Recorded → LogName → ℕ → ℕ → Replaying → Replaying → Type 0
HasRun s log from count old new =
    (order : List Name) → cursors_from at_start order log ≡ from → IsReplaying s order old →
    IsReplaying s (order ++ run_names log from count) new

-- one more record of the guest
pub record IsGuestStep (r : GuestRec) (n : ℕ) (old new : Replaying) : Type 0 where
  pub moving : IsMoved old.moving new.moving (guest_step r (world_of old.moving))
  pub unmoved : IsUnmovedAfter r old.moving.source.frames old.unmoved new.unmoved
  pub broken : new.first_broken ≡ noted (guest_met (memory_of (unmoved_frames old)) r (world_of old.moving)) old.first_broken (Guest, n)

-- one more record of the source
pub record IsSourceStep (r : SourceRec) (n : ℕ) (old new : Replaying) : Type 0 where
  pub moving : new.moving ≡ old.moving
  pub unmoved : new.unmoved ≡ old.unmoved
  pub broken : new.first_broken ≡ noted (source_met old.moving.source.frames.geometry.cells r (world_of old.moving)) old.first_broken (Source, n)

-- one more record of the pager
pub record IsPagerStep (r : PagerRec) (n : ℕ) (old new : Replaying) : Type 0 where
  pub moving : IsMoved old.moving new.moving (pager_step r (world_of old.moving))
  pub unmoved : new.unmoved ≡ old.unmoved
  pub broken : new.first_broken ≡ noted (pager_met old.moving.source.frames.geometry.cells r (world_of old.moving)) old.first_broken (Pager, n)
