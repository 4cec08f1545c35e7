-- The value of a cell on one machine that never moved, and the record that gave it.
use Rattle.std.specs.Prelude.{◌≡◌, ◌≢◌, ℕ, ◌<◌, Bool, true, false, ◌==◌, ◌&&◌, List, Some, slice_get, slice_index}
use Rattle.migration_types.specs.declared.records.GuestRec.{GuestRec}
use Rattle.migration_types.specs.declared.records.GuestRec.TheVariants.{Read, Write, Release}
use Rattle.migration_types.specs.Sessions.{Recorded}
use Rattle.audit_model.specs.Flat.{flat, at_halt}
use Rattle.session_story.specs.Scans.{last_before}
use Rattle.session_story.specs.declared.values.CellValue.{CellValue}

-- a write of the cell, or a release of its page
abbrev pub sets : ℕ → ℕ → GuestRec → Bool
sets page cell (Write vcpu p c value) = (p == page) && (c == cell)
sets page cell (Release vcpu p) = p == page
sets page cell _ = false

-- the value of the cell before guest record n, and the last record that gave it one
pub record IsHeld (s : Recorded) (n page : ℕ) (h : CellValue) : Type 0 where
  pub value : h.value ≡ flat s n page h.cell
  pub by : h.by ≡ last_before (λ m. sets page h.cell) s.guest n

abbrev pub is_read : GuestRec → Bool
is_read (Read vcpu page cell value) = true
is_read _ = false

-- what the read that is guest record n would give on one machine
pub record IsInstead (s : Recorded) (n page cell : ℕ) (h : CellValue) : Type 0 where
  pub cell_is : h.cell ≡ cell
  pub held : IsHeld s n page h

-- the cell of the read that is guest record n had another value at the halt
pub record IsOtherAtHalt (s : Recorded) (n : ℕ) (h : CellValue) : Type 0 where
  pub vcpu : ℕ
  pub page : ℕ
  pub value : ℕ
  pub reads : slice_get s.guest n ≡ Some (Read vcpu page h.cell value)
  pub held : IsHeld s (at_halt s) page h
  pub differs : value ≢ h.value

-- the first cell in which these contents differ from the page's at the halt, and what the page has there
pub record IsOther (s : Recorded) (page : ℕ) (content : List ℕ) (h : CellValue) : Type 0 where
  pub below : h.cell < s.geometry.cells
  pub differs : slice_index content h.cell ≢ h.value
  pub same_before : (c : ℕ) → c < h.cell → slice_index content c ≡ flat s (at_halt s) page c
  pub held : IsHeld s (at_halt s) page h
