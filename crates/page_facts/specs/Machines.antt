-- Where the guest is along its log.
use Rattle.std.specs.Prelude.{Bool, true, false}
use Rattle.migration_types.specs.declared.records.GuestRec.{GuestRec}
use Rattle.migration_types.specs.declared.records.GuestRec.TheVariants.{Halt, Resume}

-- whether the guest is at the target, after a record
abbrev pub late_after : GuestRec → Bool → Bool
late_after Halt late = false
late_after (Resume ready) late = true
late_after _ late = late
