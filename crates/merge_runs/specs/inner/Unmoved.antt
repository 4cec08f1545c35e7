-- The machine that never moved, which has the source's frames until the guest leaves the source.
use Rattle.std.specs.Prelude.{◌≡◌, Bool, true, false, ◌||◌, Option, Some, None}
use Rattle.std.specs.Option.{IfSome, MatchOption}
use Rattle.migration_types.specs.declared.records.GuestRec.{GuestRec}
use Rattle.migration_types.specs.Extents.{Extent}
use Rattle.audit_model.specs.declared.home.Home.{Home}
use Rattle.audit_model.specs.declared.home.Home.TheVariants.{AtSource}
use Rattle.audit_model.specs.Shape.{is_halt, is_resume}
use Rattle.flat_machine.specs.Machines.{memory_after}
use Rattle.page_store.specs.Frames.{Frames, memory_of, IsWith}

-- its frames: its own if it has any, and otherwise the source's
abbrev pub frames_of : Option Frames → Frames → Frames
frames_of None source = source
frames_of (Some own) source = own

-- frames of this geometry, if it has its own
abbrev pub IsSized : Extent → Option Frames → Type 0
IsSized e own = IfSome own (λ frames. frames.geometry ≡ e)

-- it has frames of its own unless the guest is at the source
abbrev pub IsApart : Option Frames → Home → Type 0
IsApart None home = home ≡ AtSource
IsApart (Some own) home = Unit {0}

-- frames of the same geometry and memory
pub record IsSameMachine (frames copy : Frames) : Type 0 where
  pub geometry : copy.geometry ≡ frames.geometry
  pub memory : memory_of copy ≡ memory_of frames

-- a copy of the source's frames, if the guest leaves it
abbrev pub IsApartAfter : Bool → Frames → Option Frames → Type 0
IsApartAfter true source new = MatchOption new ⊥ (IsSameMachine source)
IsApartAfter false source new = new ≡ None

-- one more record of the guest
abbrev pub IsUnmovedAfter : GuestRec → Frames → Option Frames → Option Frames → Type 0
IsUnmovedAfter r source None new = IsApartAfter (is_halt r || is_resume r) source new
IsUnmovedAfter r source (Some own) new = MatchOption new ⊥ (λ frames. IsWith own frames (memory_after r (memory_of own)))
