-- What the cause of a wrong read says of the mergings.
use Rattle.std.specs.Prelude.{◌≡◌, ◌≢◌, ◌⊎◌, ℕ, true, false, Contains, List, Some, slice_get}
use Rattle.migration_types.specs.declared.records.LogName.TheVariants.{Pager}
use Rattle.migration_types.specs.declared.records.GuestRec.{GuestRec}
use Rattle.migration_types.specs.declared.records.GuestRec.TheVariants.{Read}
use Rattle.migration_types.specs.Receipts.{Name}
use Rattle.migration_types.specs.Sessions.{Recorded}
use Rattle.audit_model.specs.declared.home.Home.TheVariants.{AtTarget}
use Rattle.audit_model.specs.Flat.{flat, home}
use Rattle.audit_model.specs.Laws.{GuestAt}
use Rattle.audit_model.specs.Mergings.{IsMerging}
use Rattle.audit_model.specs.World.{World}
use Rattle.session_story.specs.Explained.{first_placement, first_touch}
use Rattle.session_story.specs.declared.fault_stories.PageCause.{PageCause}
use Rattle.session_story.specs.declared.fault_stories.PageCause.TheVariants.{Sent, Placed, Zeroed, Again, Over, Early, Unplaced, Lost, Unrecorded}

-- the read that is guest record n, in this merging, and the world just before it
pub record ReadIn (s : Recorded) (n : ℕ) (order : List Name) : Type 0 where
  pub merging : IsMerging s order
  pub vcpu : ℕ
  pub page : ℕ
  pub cell : ℕ
  pub value : ℕ
  pub world : World
  pub at : GuestAt s order n (Read vcpu page cell value) world

-- This merging explains the read that is guest record n: just before it, the target's memory has the value that was
-- read, or the page is not there.
pub record Explains (s : Recorded) (n : ℕ) (order : List Name) : Type 0 where
  pub read : ReadIn s n order
  pub explains : (read.world.target read.page read.cell ≡ read.value) ⊎ (read.world.resident read.page ≡ false)

-- In this merging pager record q comes before the read that is guest record n. Just before the read, the page is there,
-- and the target's memory has the value that was read.
pub record GivesIn (s : Recorded) (n q : ℕ) (order : List Name) : Type 0 where
  pub read : ReadIn s n order
  pub is_before : Contains read.at.earlier (Pager, q)
  pub is_there : read.world.resident read.page ≡ true
  pub has_it : read.world.target read.page read.cell ≡ read.value

-- the page's first placement gives the read its value
pub record FirstGivesIn (s : Recorded) (n page : ℕ) (order : List Name) : Type 0 where
  pub place : ℕ
  pub is_first : first_placement s page ≡ Some place
  pub gives : GivesIn s n place order

-- in this merging, the page is not there just before guest record n
pub record IsAbsentIn (s : Recorded) (n page : ℕ) (order : List Name) : Type 0 where
  pub merging : IsMerging s order
  pub by : GuestRec
  pub world : World
  pub at : GuestAt s order n by world
  pub is_absent : world.resident page ≡ false

-- the page is not there just before its first use at the target
pub record IsNeverThere (s : Recorded) (page : ℕ) (order : List Name) : Type 0 where
  pub touch : ℕ
  pub is_touch : first_touch s page ≡ Some touch
  pub absent : IsAbsentIn s touch page order

-- What this merging shows of a read with this cause: a placement gives it its value, or the page's first use at the
-- target finds the page not there.
abbrev pub Shows : Recorded → ℕ → ℕ → PageCause → List Name → Type 0
Shows s n page (Sent w) order = FirstGivesIn s n page order
Shows s n page (Placed w) order = GivesIn s n w.place order
Shows s n page (Zeroed place) order = GivesIn s n place order
Shows s n page (Again place) order = GivesIn s n place order
Shows s n page (Over place look) order = GivesIn s n place order
Shows s n page (Early touch look) order = IsAbsentIn s touch page order
Shows s n page Unplaced order = IsNeverThere s page order
Shows s n page (Lost l) order = ⊥
Shows s n page Unrecorded order = ⊥

-- a read at the target gives another value than one machine
pub record IsWrongRead (s : Recorded) (n page : ℕ) : Type 0 where
  pub vcpu : ℕ
  pub cell : ℕ
  pub value : ℕ
  pub reads : slice_get s.guest n ≡ Some (Read vcpu page cell value)
  pub is_late : home s n ≡ AtTarget
  pub is_wrong : value ≢ flat s n page cell
