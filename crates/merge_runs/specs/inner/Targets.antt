-- The machine at the target, after one step.
use Rattle.std.specs.Prelude.{◌≡◌, ℕ, ◌<◌}
use Rattle.migration_types.specs.Extents.{Extent}
use Rattle.migration_types.specs.Memory.{Memory, zeros}
use Rattle.migration_types.specs.PageSets.{Pages, no_page, with_page}
use Rattle.page_store.specs.Frames.{memory_of}
use Rattle.page_store.specs.Tables.{pages_of, values}
use Rattle.merge_runs.specs.declared.target.Target.{Target}

-- the machine and its tables have the page
pub record HasPage (t : Target) (page : ℕ) : Type 0 where
  pub frames : page < t.frames.geometry.pages
  pub resident : page < pages_of t.resident
  pub placed : page < pages_of t.placed
  pub touched : page < pages_of t.touched

-- a machine of this geometry, with tables of its pages
pub record IsSized (e : Extent) (t : Target) : Type 0 where
  pub frames : t.frames.geometry ≡ e
  pub resident : pages_of t.resident ≡ e.pages
  pub placed : pages_of t.placed ≡ e.pages
  pub touched : pages_of t.touched ≡ e.pages

-- a machine with tables of the same size, and these values
pub record IsWith (old new : Target) (memory : Memory) (resident placed touched : Pages) : Type 0 where
  pub geometry : new.frames.geometry ≡ old.frames.geometry
  pub resident_pages : pages_of new.resident ≡ pages_of old.resident
  pub placed_pages : pages_of new.placed ≡ pages_of old.placed
  pub touched_pages : pages_of new.touched ≡ pages_of old.touched
  pub memory_is : memory_of new.frames ≡ memory
  pub resident_is : values new.resident ≡ resident
  pub placed_is : values new.placed ≡ placed
  pub touched_is : values new.touched ≡ touched

abbrev pub IsTouched : Target → Target → ℕ → Memory → Type 0
IsTouched old new page memory = IsWith old new memory (values old.resident) (values old.placed) (with_page page (values old.touched))

abbrev pub IsFreed : Target → Target → ℕ → Memory → Type 0
IsFreed old new page memory = IsWith old new memory (with_page page (values old.resident)) (values old.placed) (with_page page (values old.touched))

abbrev pub IsPlaced : Target → Target → ℕ → Memory → Type 0
IsPlaced old new page memory = IsWith old new memory (with_page page (values old.resident)) (with_page page (values old.placed)) (values old.touched)

-- the machine before the first record
pub record IsBegun (e : Extent) (t : Target) : Type 0 where
  pub sized : IsSized e t
  pub memory : memory_of t.frames ≡ zeros
  pub resident : values t.resident ≡ no_page
  pub placed : values t.placed ≡ no_page
  pub touched : values t.touched ≡ no_page
