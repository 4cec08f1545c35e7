-- The status of an answer is 0 or 1.
use Rattle.std.proofs.Common.{ℕ, ◌<◌, List, arith}
use Rattle.host_commands.specs.Migrations.{AuditRefused, IsMigrateAnswer, LogFull, Migration, Records, ScriptText, TranscriptDiffers, migration_status}
use Rattle.host_commands.specs.Steps.{IsStepsAnswer, Steps as Stepped, steps_status}
use Rattle.host_commands.specs.Steps as stepped

migration_few : (m : Migration) → migration_status m < 2
migration_few (ScriptText line) = omega arith
migration_few LogFull = omega arith
migration_few (AuditRefused report) = omega arith
migration_few TranscriptDiffers = omega arith
migration_few (Records session cert) = omega arith

stepped_few : (o : Stepped) → steps_status o < 2
stepped_few (stepped.ScriptText line) = omega arith
stepped_few (stepped.EventsText line) = omega arith
stepped_few stepped.LogFull = omega arith
stepped_few (stepped.Records session) = omega arith

pub migrate_few : (script text : List ℕ) (status : ℕ) → IsMigrateAnswer script text status → status < 2
migrate_few script text status h = rw h.is_status (migration_few h.value)

pub steps_few : (texts : List ℕ × List ℕ) (text : List ℕ) (status : ℕ) → IsStepsAnswer texts.0 texts.1 text status → status < 2
steps_few texts text status h = rw h.is_status (stepped_few h.value)
