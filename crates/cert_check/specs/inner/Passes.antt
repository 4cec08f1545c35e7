-- What a pass over the logs keeps.
use Rattle.std.specs.Prelude.{◌≡◌, ℕ, ◌||◌}
use Rattle.migration_types.specs.declared.records.GuestRec.{GuestRec}
use Rattle.migration_types.specs.declared.records.LogName.{LogName}
use Rattle.migration_types.specs.declared.records.LogName.TheVariants.{Guest, Source}
use Rattle.migration_types.specs.Sessions.{Recorded}
use Rattle.audit_model.specs.Shape.{earlier, is_halt, is_resume}
use Rattle.cert_check.specs.declared.passes.Pass.{Pass}
use Rattle.cert_check.specs.declared.passes.Phases.{Phases}
use Rattle.cert_check.specs.inner.FirstOfLog.{AreSent}

-- the phases before guest record n
pub record ArePhases (s : Recorded) (n : ℕ) (p : Phases) : Type 0 where
  pub halted : p.halted ≡ earlier is_halt s.guest n
  pub resumed : p.resumed ≡ earlier is_resume s.guest n

-- the phases after one more record
pub record ArePhasesAfter (r : GuestRec) (old new : Phases) : Type 0 where
  pub halted : new.halted ≡ (is_halt r || old.halted)
  pub resumed : new.resumed ≡ (is_resume r || old.resumed)

-- the pass is before record n of the log
abbrev pub IsAt : Recorded → LogName → ℕ → Pass → Type 0
IsAt s Guest n pass = ArePhases s n pass.phases × AreSent s 0 pass.sent
IsAt s Source n pass = AreSent s n pass.sent
IsAt s log n pass = Unit {0}
