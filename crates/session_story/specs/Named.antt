-- The record that a record names.
use Rattle.std.specs.Prelude.{ℕ, List, [], ◌∷◌, Option, Some, None}
use Rattle.migration_types.specs.declared.records.LogName.{LogName}
use Rattle.migration_types.specs.declared.records.LogName.TheVariants.{Source, Link, Lane, Pager}
use Rattle.migration_types.specs.declared.rows.Field.{Field}
use Rattle.migration_types.specs.declared.rows.Field.TheVariants as field
use Rattle.migration_types.specs.Receipts.{Name}
use Rattle.migration_types.specs.Rows.{Consists, row_of}
use Rattle.migration_types.specs.Sessions.{Recorded}

-- the record of this number in a log, if there is a number
abbrev pub named_in : LogName → Option ℕ → Option Name
named_in log None = None
named_in log (Some n) = Some (log, n)

-- the first of these records that exists
abbrev pub or_else : Option Name → Option Name → Option Name
or_else None other = other
or_else (Some name) other = Some name

-- how far a page came: to the pager, or else to a delivery by the link, or by the lane, or to the source's sending
abbrev pub furthest : Option ℕ → Option ℕ → Option ℕ → Option ℕ → Option Name
furthest got delivered by_lane sent =
    or_else (named_in Pager got) (or_else (named_in Link delivered) (or_else (named_in Lane by_lane) (named_in Source sent)))

-- the first record that the fields name, if they name one
abbrev pub named_among : List Field → Option Name
named_among [] = None
named_among (field.Number log n ∷ fields) = Some (log, n)
named_among (field.Handover log n ∷ fields) = Some (log, n)
named_among (field.Vcpu n ∷ fields) = named_among fields
named_among (field.Page n ∷ fields) = named_among fields
named_among (field.Cell n ∷ fields) = named_among fields
named_among (field.Value n ∷ fields) = named_among fields

abbrev pub named_by_row : Option Consists → Option Name
named_by_row None = None
named_by_row (Some row) = named_among row.fields

-- the record that a record names, if it names one
abbrev pub named_by : Recorded → Name → Option Name
named_by s name = named_by_row (row_of s name)
