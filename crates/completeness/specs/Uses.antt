-- Whether a session tells of a use of a page at the target.
use Rattle.std.specs.Prelude.{Bool, true, false, drop}
use Rattle.std.specs.List.{list_any, position}
use Rattle.std.specs.Option.{option_map_or}
use Rattle.migration_types.specs.declared.records.GuestRec.{GuestRec}
use Rattle.migration_types.specs.declared.records.GuestRec.TheVariants.{Read, Write}
use Rattle.migration_types.specs.Sessions.{Recorded}
use Rattle.audit_model.specs.Shape.{is_resume}

-- whether it reads or writes a page
abbrev pub is_use : GuestRec → Bool
is_use (Read vcpu page cell value) = true
is_use (Write vcpu page cell value) = true
is_use _ = false

-- whether the guest reads or writes a page after its first resume
abbrev pub tells_use : Recorded → Bool
tells_use s = option_map_or (λ n. list_any is_use (drop n s.guest)) (position is_resume s.guest) false
