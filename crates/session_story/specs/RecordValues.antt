-- The value that a record has.
use Rattle.std.specs.Prelude.{ℕ, List, Option, Some, None, slice_get}
use Rattle.migration_types.specs.declared.records.LogName.TheVariants.{Guest, Source, Pager}
use Rattle.migration_types.specs.declared.records.GuestRec.{GuestRec}
use Rattle.migration_types.specs.declared.records.GuestRec.TheVariants.{Read}
use Rattle.migration_types.specs.Receipts.{Name}
use Rattle.migration_types.specs.Rows.{source_contents, pager_contents}
use Rattle.migration_types.specs.Sessions.{Recorded}
use Rattle.audit_model.specs.Names.{if_there}

-- the value of a cell in contents, if there are any
abbrev pub cell_in : Option (List ℕ) → ℕ → Option ℕ
cell_in None cell = None
cell_in (Some contents) cell = slice_get contents cell

abbrev pub read_value : GuestRec → Option ℕ
read_value (Read vcpu page cell value) = Some value
read_value rec = None

-- the value that a record has: for a read, the one that it gives; for a record with contents, that of the cell
abbrev pub value_at : Recorded → Name → ℕ → Option ℕ
value_at s (Guest, n) cell = if_there read_value (slice_get s.guest n)
value_at s (Source, n) cell = cell_in (if_there source_contents (slice_get s.source n)) cell
value_at s (Pager, n) cell = cell_in (if_there pager_contents (slice_get s.pager n)) cell
value_at s name cell = None
