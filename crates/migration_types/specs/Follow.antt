-- What follows from what a record consists of: its receipt and its limits.
use Rattle.std.specs.Prelude.{ℕ, ◌<◌, ◌^◌, ◌==◌, List, [], ◌∷◌, Option, Some, None, if◌then◌else◌}
use Rattle.migration_types.specs.declared.version.Version.{Version}
use Rattle.migration_types.specs.declared.records.LogName.{LogName}
use Rattle.migration_types.specs.declared.records.LogName.TheVariants as log
use Rattle.migration_types.specs.declared.rows.Field.{Field}
use Rattle.migration_types.specs.declared.rows.Field.TheVariants.{Vcpu, Page, Cell, Value, Number, Handover}
use Rattle.migration_types.specs.Limits.{vcpus}
use Rattle.migration_types.specs.Extents.{Extent}
use Rattle.migration_types.specs.Contents.{IsContent}
use Rattle.migration_types.specs.Receipts.{Name, log_index}
use Rattle.migration_types.specs.Sessions.{IsNumber, HasLane}
use Rattle.migration_types.specs.Rows.{Consists, field_name}

-- the name if it is of another log than this one, and otherwise the next name
abbrev pub of_another : LogName → Option Name → Option Name → Option Name
of_another own None next = next
of_another own (Some (log, n)) next = if log_index log == log_index own then next else Some (log, n)

-- the first record of another log than this one that the fields name
abbrev pub receipt_among : LogName → List Field → Option Name
receipt_among own [] = None
receipt_among own (f ∷ fields) = of_another own (field_name f) (receipt_among own fields)

-- the record that a record of this log is a receipt for, if there is one
abbrev pub receipt_by : LogName → Option Consists → Option Name
receipt_by own None = None
receipt_by own (Some row) = receipt_among own row.fields

-- what is said about a log's records holds, and the version has this log
abbrev pub WithLog : Version → LogName → Type 0 → Type 0
WithLog version log.Lane Says = HasLane version × Says
WithLog version log.Guest Says = Says
WithLog version log.Source Says = Says
WithLog version log.Link Says = Says
WithLog version log.Pager Says = Says

abbrev pub FieldFits : Version → Extent → Field → Type 0
FieldFits version e (Vcpu n) = n < vcpus
FieldFits version e (Page n) = n < e.pages
FieldFits version e (Cell n) = n < e.cells
FieldFits version e (Value n) = n < 2 ^ 64
FieldFits version e (Number log n) = WithLog version log (IsNumber e.size n)
FieldFits version e (Handover log n) = WithLog version log (IsNumber e.size n)

abbrev pub ContentFits : Extent → Option (List ℕ) → Type 0
ContentFits e None = Unit {0}
ContentFits e (Some cells) = IsContent e.cells cells

-- each field is within the limits, and so are the contents after them
abbrev pub FieldsFit : Version → Extent → List Field → Option (List ℕ) → Type 0
FieldsFit version e [] contents = ContentFits e contents
FieldsFit version e (f ∷ []) None = FieldFits version e f
FieldsFit version e (f ∷ []) (Some cells) = FieldFits version e f × IsContent e.cells cells
FieldsFit version e (f ∷ g ∷ fields) contents = FieldFits version e f × FieldsFit version e (g ∷ fields) contents

-- a record of this log that consists of this is within the limits
abbrev pub RowFits : Version → Extent → LogName → Consists → Option (List ℕ) → Type 0
RowFits version e log row contents = WithLog version log (FieldsFit version e row.fields contents)
