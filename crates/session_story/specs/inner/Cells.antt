-- A page's cells compared with contents.
use Rattle.std.specs.Prelude.{◌≡◌, ◌≢◌, ℕ, ◌<◌, List, Option, Some, length, slice_index}
use Rattle.migration_types.specs.declared.records.GuestRec.{GuestRec}
use Rattle.migration_types.specs.declared.records.GuestRec.TheVariants.{Write}

-- the first cells are the same
abbrev pub AreSame : List ℕ → (ℕ → ℕ) → ℕ → Type 0
AreSame content cells n = (c : ℕ) → c < n → slice_index content c ≡ cells c

-- a page of so many cells has these values
pub record IsPage (content : List ℕ) (cells : ℕ → ℕ) (count : ℕ) : Type 0 where
  pub size : length content ≡ count
  pub same : AreSame content cells count

pub record IsFirstOther (content : List ℕ) (cells : ℕ → ℕ) (count cell : ℕ) : Type 0 where
  pub below : cell < count
  pub differs : slice_index content cell ≢ cells cell
  pub same_before : AreSame content cells cell

-- the value that a record, if there is one, gives a cell that it sets
abbrev pub set_by : Option GuestRec → ℕ
set_by (Some (Write vcpu page cell value)) = value
set_by _ = 0
