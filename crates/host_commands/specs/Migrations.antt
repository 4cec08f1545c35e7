-- The outcome of running the migration of a script.
use Rattle.std.specs.Prelude.{◌≡◌, ℕ, List, ◌++◌, codes}
use Rattle.text_lines.specs.Text.{ended, IsSpelling, IsRefusalLine}
use Rattle.migration_types.specs.Certs.{Certified, IsCert}
use Rattle.migration_types.specs.declared.session.Logs.{Logs}
use Rattle.migration_types.specs.Sessions.{Recorded, recorded, IsSession}
use Rattle.session_log.specs.Grammar.{session_lines}
use Rattle.cert_text.specs.Grammar.{cert_lines}
use Rattle.audit_model.specs.Mergings.{spelled}
use Rattle.audit_model.specs.World.{IsSafe}
use Rattle.cert_check.specs.Verdicts.{IsVerdict}
use Rattle.cert_check.specs.declared.verdict.Verdict.TheVariants.{Yes}
use Rattle.audit_report.specs.Reports.{IsReport, IsClean}
use Rattle.audit_report.specs.ReportText.{report_text}
use Rattle.audit_report.specs.declared.report.Report.{Report}
use Rattle.guest_script.specs.declared.script.Scenario.{Scenario}
use Rattle.guest_script.specs.Scripts.{SpellsScript}
use Rattle.migration_model.specs.Promise.{HasEachOwed}
use Rattle.host_checks.specs.Outcomes.{AreOfLog, AreOfScript, IsDone}
use Rattle.guest_script.specs.declared.transcript.Answered.{Answered}
use Rattle.command_texts.specs.Answers.{IsAnswer, numbered}

-- A session that was recorded from a script's migration, and its certificate. The version, the machine and the initial
-- pages are the script's. The certificate is right, and every merging of the session is safe. Each virtual processor
-- did its operations, with the answers that the guest's log has. The source was told that every owed page is placed,
-- and each is resident at the end of the certificate's merging.
pub record IsMigrationOf (script : Scenario) (session : Recorded) (cert : Certified) : Type 0 where
  pub version : session.version ≡ script.version
  pub geometry : session.geometry ≡ script.geometry
  pub init : session.init ≡ script.init
  pub checked : IsVerdict session cert Yes
  pub safe : IsSafe session
  pub transcripts : List (List Answered)
  pub operations : AreOfScript script.vcpus transcripts
  pub answers : AreOfLog session.guest transcripts
  pub done : IsDone session
  pub owed : HasEachOwed session (spelled cert.runs)

-- the script's text is refused at this line; a log had no room; the session is not clean, with this report; another
-- check fails; or this was recorded, with this certificate
pub data Migration : Type 0 where
  ScriptText : ℕ → Migration
  LogFull : Migration
  AuditRefused : Report → Migration
  TranscriptDiffers : Migration
  Records : Recorded → Certified → Migration

-- The outcome for the text. If a run is refused, the text is that of a script, and a report is on a session of this
-- script, but nothing more is promised. What was recorded is within all limits, so its text can be read.
abbrev pub IsMigration : List ℕ → Migration → Type 0
IsMigration script (ScriptText line) = IsRefusalLine SpellsScript script line
IsMigration script LogFull = (s : Scenario) × IsSpelling SpellsScript s script
IsMigration script (AuditRefused report) = (s : Scenario) × IsSpelling SpellsScript s script × (logs : Logs) × IsReport (recorded s.version s.geometry s.init logs) report × ¬ IsClean report
IsMigration script TranscriptDiffers = (s : Scenario) × IsSpelling SpellsScript s script
IsMigration script (Records session cert) = (s : Scenario) × IsSpelling SpellsScript s script × IsMigrationOf s session cert × IsSession session × IsCert cert

-- the text of a session, followed by that of its certificate
abbrev pub certified_text : Recorded → Certified → List ℕ
certified_text session cert = ended (session_lines session) ++ ended (cert_lines cert)

abbrev pub migration_text : Migration → List ℕ
migration_text (ScriptText line) = numbered (codes "script-text line ") line
migration_text LogFull = codes "log-full\n"
migration_text (AuditRefused report) = report_text report
migration_text TranscriptDiffers = codes "transcript-differs\n"
migration_text (Records session cert) = certified_text session cert

-- 0 for a session with its certificate, and 1 for any other outcome
abbrev pub migration_status : Migration → ℕ
migration_status (Records session cert) = 0
migration_status other = 1

-- `migrate`: the outcome for the script
abbrev pub IsMigrateAnswer : List ℕ → List ℕ → ℕ → Type 0
IsMigrateAnswer script = IsAnswer (IsMigration script) migration_text migration_status
