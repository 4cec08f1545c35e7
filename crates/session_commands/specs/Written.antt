-- The records of a recording that are written, and what the form of their text rests on.
use Rattle.std.specs.Prelude.{◌≡◌, ℕ, ◌*◌, ◌≤◌, ◌⊎◌, ◌==◌, ◌&&◌, Bool, true, false, IsTrue, List, [], ◌∷◌, Some, slice_get, take}
use Rattle.std.specs.List.{list_any}
use Rattle.migration_types.specs.declared.records.LogName.{LogName}
use Rattle.migration_types.specs.declared.records.SourceRec.{SourceRec}
use Rattle.migration_types.specs.declared.records.SourceRec.TheVariants.{Back, Halted}
use Rattle.migration_types.specs.declared.records.GuestRec.{GuestRec}
use Rattle.migration_types.specs.declared.records.PagerRec.{PagerRec}
use Rattle.migration_types.specs.declared.records.PagerRec.TheVariants.{Pull}
use Rattle.migration_types.specs.Limits.{limits}
use Rattle.migration_types.specs.declared.size.Size.TheVariants.{Small}
use Rattle.migration_types.specs.Sessions.{Recorded}
use Rattle.audit_model.specs.Shape.{is_release, is_resume}
use Rattle.recorder_files.specs.Fronts.{cursors_of, IsGreatestFront, IsGreatestFrontWithin}
use Rattle.recorder_files.specs.declared.fronts.Front.{Front}

-- ---- the records that are written

-- a record of the source tells that the guest was halted
abbrev pub is_halted : SourceRec → Bool
is_halted (Halted halt) = true
is_halted rec = false

-- the source's first record does
abbrev pub begins_halted : List SourceRec → Bool
begins_halted [] = false
begins_halted (rec ∷ records) = is_halted rec

-- the source's only record in a front tells that the guest was halted
abbrev pub has_lone_halted : Recorded → Front → Bool
has_lone_halted s front = (front.source == 1) && begins_halted s.source

abbrev pub without_source : Front → Front
without_source front = record front { source = 0 }

-- The front of a recording that is written: the greatest. Where a `halted` of the source is alone in that, it tells nothing: then it is
-- the greatest front within that one which has no record of the source.
pub record IsWrittenFront (s : Recorded) (front : Front) : Type 0 where
  pub greatest : Front
  pub is_greatest : IsGreatestFront s (cursors_of greatest)
  pub as_it_is : has_lone_halted s greatest ≡ false → front ≡ greatest
  pub without : has_lone_halted s greatest ≡ true → IsGreatestFrontWithin s (cursors_of (without_source greatest)) (cursors_of front)

-- ---- the version and the size of the text

abbrev pub is_back : SourceRec → Bool
is_back Back = true
is_back rec = false

abbrev pub is_pull : PagerRec → Bool
is_pull (Pull down) = true
is_pull rec = false

-- the guest releases a page here, behind its resume
pub record IsLateRelease (guest : List GuestRec) (n : ℕ) : Type 0 where
  pub rec : GuestRec
  pub there : slice_get guest n ≡ Some rec
  pub release : IsTrue (is_release rec)
  pub resumed : IsTrue (list_any is_resume (take n guest))

-- a machine of these pages and cells and the records of a front are within the limits of the small size
pub record IsSmall (pages cells : ℕ) (front : Front) : Type 0 where
  pub few_pages : pages ≤ (limits Small).pages
  pub few_cells : pages * cells ≤ (limits Small).cells
  pub few_records : (log : LogName) → cursors_of front log ≤ (limits Small).records

-- what only a text of the large size has
abbrev pub NeedsLarge : ℕ → ℕ → Recorded → Front → Type 0
NeedsLarge pages cells seen front = IsTrue (list_any is_back seen.source) ⊎ (IsSmall pages cells front → ⊥)
