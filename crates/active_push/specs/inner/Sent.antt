-- The contents that a record sends.
use Rattle.std.specs.Prelude.{ℕ, List, Option, Some, None}
use Rattle.migration_types.specs.declared.records.SourceRec.{SourceRec}
use Rattle.migration_types.specs.declared.records.SourceRec.TheVariants.{Send}

abbrev pub contents_in : SourceRec → Option (List ℕ)
contents_in (Send page contents) = Some contents
contents_in _ = None
