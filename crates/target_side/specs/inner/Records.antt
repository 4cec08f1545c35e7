-- The record of an operation at the source.
use Rattle.std.specs.Prelude.{ℕ}
use Rattle.migration_types.specs.declared.records.GuestRec.{GuestRec}
use Rattle.migration_types.specs.declared.records.GuestRec.TheVariants.{Read, Write, Release}
use Rattle.migration_types.specs.Memory.{Memory}
use Rattle.migration_events.specs.declared.ops.Op.{Op}
use Rattle.migration_events.specs.declared.ops.Op.TheVariants.{Read as ReadCell, Write as WriteCell, Release as ReleasePage}

abbrev pub record_of : ℕ → Op → Memory → GuestRec
record_of v (ReadCell p c) memory = Read v p c (memory p c)
record_of v (WriteCell p c x) memory = Write v p c x
record_of v (ReleasePage p) memory = Release v p
