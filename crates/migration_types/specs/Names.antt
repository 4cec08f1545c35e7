-- The names of a session's records, and the record that a receipt names.
use Rattle.std.specs.Prelude.{ℕ, List, Option, Some, None, slice_get}
use Rattle.migration_types.specs.declared.records.LogName.TheVariants.{Guest, Source, Link, Lane, Pager}
use Rattle.migration_types.specs.Receipts.{Name, guest_receipt, source_receipt, link_receipt, lane_receipt, pager_receipt}
use Rattle.migration_types.specs.Sessions.{Recorded}

-- f applied to the record, if there is one
abbrev pub if_there : {A B : Type 0} → (A → Option B) → Option A → Option B
if_there f None = None
if_there f (Some x) = f x

-- the record that the record at a place of a list is a receipt for
abbrev pub receipt_in : {X : Type 0} → (X → Option Name) → List X → ℕ → Option Name
receipt_in receipt_of records n = if_there receipt_of (slice_get records n)

-- the record of another log that the record with this name is a receipt for
abbrev pub receipt : Recorded → Name → Option Name
receipt s (Guest, n) = receipt_in guest_receipt s.guest n
receipt s (Source, n) = receipt_in source_receipt s.source n
receipt s (Link, n) = receipt_in link_receipt s.link n
receipt s (Lane, n) = receipt_in lane_receipt s.lane n
receipt s (Pager, n) = receipt_in pager_receipt s.pager n
