-- The machine that lines are read for.
use Rattle.migration_types.specs.declared.records.GuestRec.{GuestRec}
use Rattle.migration_types.specs.declared.records.GuestRec.TheVariants.{Read, Write}
use Rattle.migration_types.specs.declared.records.SourceRec.{SourceRec}
use Rattle.migration_types.specs.declared.records.SourceRec.TheVariants.{Send}
use Rattle.migration_types.specs.declared.records.PagerRec.{PagerRec}
use Rattle.migration_types.specs.declared.records.PagerRec.TheVariants.{Place}
use Rattle.session_grammar.specs.declared.sizes.Sizes.{Sizes}
use Rattle.migration_types.specs.Extents.{Extent}

abbrev pub extent_of : Sizes → Extent
extent_of m = record { size = m.size; pages = m.pages; cells = m.cells }

-- a record other than a read or a write
abbrev pub IsEvent : GuestRec → Type 0
IsEvent (Read vcpu page cell value) = ⊥
IsEvent (Write vcpu page cell value) = ⊥
IsEvent _ = Unit {0}

-- a record other than a sending of a page
abbrev pub IsStep : SourceRec → Type 0
IsStep (Send page contents) = ⊥
IsStep _ = Unit {0}

-- a record other than a placement
abbrev pub IsNotice : PagerRec → Type 0
IsNotice (Place page got contents) = ⊥
IsNotice _ = Unit {0}
