-- The machines of a replay, as a world.
use Rattle.std.specs.Prelude.{◌≡◌, ℕ, ◌<◌, length}
use Rattle.migration_types.specs.declared.records.GuestRec.{GuestRec}
use Rattle.migration_types.specs.declared.records.GuestRec.TheVariants.{Read, Write, Release}
use Rattle.migration_types.specs.declared.records.SourceRec.{SourceRec}
use Rattle.migration_types.specs.declared.records.SourceRec.TheVariants.{Send}
use Rattle.migration_types.specs.declared.records.PagerRec.{PagerRec}
use Rattle.migration_types.specs.declared.records.PagerRec.TheVariants.{Place, Zero}
use Rattle.migration_types.specs.Extents.{Extent}
use Rattle.audit_model.specs.declared.home.Home.{Home}
use Rattle.audit_model.specs.declared.home.Home.TheVariants.{AtSource, Nowhere, AtTarget}
use Rattle.audit_model.specs.World.{World}
use Rattle.balloon_ledger.specs.Released.{released}
use Rattle.flat_machine.specs.Machines.{IsSized as IsMachineSized}
use Rattle.page_store.specs.Frames.{Frames, memory_of}
use Rattle.page_store.specs.Tables.{pages_of, values}
use Rattle.merge_runs.specs.declared.moving.Moving.{Moving}
use Rattle.merge_runs.specs.inner.Targets.{HasPage as TargetHasPage, IsSized as IsTargetSized}

-- the world of these machines
abbrev pub world_of : Moving → World
world_of m = record {
  home = m.home;
  source = memory_of m.source.frames;
  target = memory_of m.target.frames;
  resident = values m.target.resident;
  placed = values m.target.placed;
  touched = values m.target.touched;
  ledger = released m.source.ledger;
}

-- the frames where the guest is, or the source's while it is nowhere
abbrev pub frames_at : Home → Moving → Frames
frames_at AtSource m = m.source.frames
frames_at Nowhere m = m.source.frames
frames_at AtTarget m = m.target.frames

-- machines of this geometry
pub record IsSized (e : Extent) (m : Moving) : Type 0 where
  pub source : IsMachineSized e m.source
  pub target : IsTargetSized e m.target

-- both machines and the tables have the page
pub record HasPage (m : Moving) (page : ℕ) : Type 0 where
  pub frames : page < m.source.frames.geometry.pages
  pub ledger : page < m.source.ledger.geometry.pages
  pub target : TargetHasPage m.target page

-- both machines have the cell in each page
pub record HasCell (m : Moving) (cell : ℕ) : Type 0 where
  pub source : cell < m.source.frames.geometry.cells
  pub target : cell < m.target.frames.geometry.cells

-- the machines have what a record is about
abbrev pub GuestHas : Moving → GuestRec → Type 0
GuestHas m (Read vcpu p c value) = HasPage m p × HasCell m c
GuestHas m (Write vcpu p c value) = HasPage m p × HasCell m c
GuestHas m (Release vcpu p) = HasPage m p
GuestHas m _ = Unit {0}

abbrev pub SourceHas : Moving → SourceRec → Type 0
SourceHas m (Send p content) = HasPage m p
SourceHas m _ = Unit {0}

abbrev pub PagerHas : Moving → PagerRec → Type 0
PagerHas m (Place p got content) = HasPage m p × (length content ≡ m.target.frames.geometry.cells)
PagerHas m (Zero p) = HasPage m p
PagerHas m _ = Unit {0}

-- machines of the same sizes, in this world
pub record IsMoved (old new : Moving) (w : World) : Type 0 where
  pub frames : new.source.frames.geometry ≡ old.source.frames.geometry
  pub ledger : new.source.ledger.geometry ≡ old.source.ledger.geometry
  pub target : new.target.frames.geometry ≡ old.target.frames.geometry
  pub resident : pages_of new.target.resident ≡ pages_of old.target.resident
  pub placed : pages_of new.target.placed ≡ pages_of old.target.placed
  pub touched : pages_of new.target.touched ≡ pages_of old.target.touched
  pub world : world_of new ≡ w
