-- What `migrate` writes is judged to be right, and clean.
use Rattle.std.proofs.Common.{◌≡◌, ◌∙◌, ℕ, List}
use Rattle.text_lines.specs.Text.{IsUnambiguous}
use Rattle.migration_types.specs.Certs.{Certified, IsCert}
use Rattle.migration_types.specs.Sessions.{Recorded, IsSession}
use Rattle.cert_text.specs.Grammar.{SpellsCert}
use Rattle.audit_model.specs.Laws.{IsFaultless}
use Rattle.audit_model.specs.Mergings.{HasMerging, spelled}
use Rattle.audit_model.specs.World.{IsSafe}
use Rattle.audit_model.proofs.Unsafe.{safe_exactly_if_clean}
use Rattle.cert_check.specs.Verdicts.{IsVerdict}
use Rattle.cert_check.specs.declared.verdict.Verdict.TheVariants as verdict
use Rattle.judged_texts.specs.declared.audit_part.AuditPart.{AuditPart}
use Rattle.command_texts.specs.Cutting.{IsCutAtEnd}
use Rattle.judge_commands.specs.Answers.{IsAuditAnswer, IsVerdictAnswer}
use Rattle.judge_commands.proofs.Judged.{cut_texts, judged_clean, judged_text}
use Rattle.host_commands.specs.Migrations.{AuditRefused, IsMigrateAnswer, IsMigration, LogFull, Migration, Records, ScriptText, TranscriptDiffers, certified_text, migration_status, migration_text}

-- what was migrated
record Wrote (text : List ℕ) : Type 0 where
  session : Recorded
  cert : Certified
  fits : IsSession session
  cert_fits : IsCert cert
  checked : IsVerdict session cert verdict.Yes
  safe : IsSafe session
  is_text : text ≡ certified_text session cert

wrote : (script text : List ℕ) (m : Migration) → IsMigration script m → text ≡ migration_text m → 0 ≡ migration_status m → Wrote text
wrote script text (ScriptText line) are is zero = absurd cc
wrote script text LogFull are is zero = absurd cc
wrote script text (AuditRefused report) are is zero = absurd cc
wrote script text TranscriptDiffers are is zero = absurd cc
wrote script text (Records session cert) (scenario, is_script, of, fits, cert_fits) is zero =
    record { session = session; cert = cert; fits = fits; cert_fits = cert_fits; checked = of.checked; safe = of.safe; is_text = is }

wrote_by : (script text : List ℕ) → IsMigrateAnswer script text 0 → Wrote text
wrote_by script text h = wrote script text h.value h.is_right h.is_text h.is_status

pub migrations_judged : IsUnambiguous SpellsCert → (script text first second answer : List ℕ) (status : ℕ) → IsMigrateAnswer script text 0 → IsCutAtEnd text first second → IsVerdictAnswer first second answer status → status ≡ 0
migrations_judged certs script text first second answer status h cut k =
    let w = wrote_by script text h in
    let texts = cut_texts w.session w.cert text first second w.fits w.cert_fits w.is_text cut in
    k.is_status ∙ judged_text certs w.session w.cert first second texts w.checked.0 w.checked.1 k.value k.is_right

pub migrations_clean : (wanted : AuditPart) (script text first second answer : List ℕ) (status : ℕ) → IsMigrateAnswer script text 0 → IsCutAtEnd text first second → IsAuditAnswer wanted first answer status → status ≡ 0
migrations_clean wanted script text first second answer status h cut k =
    let w = wrote_by script text h in
    let texts = cut_texts w.session w.cert text first second w.fits w.cert_fits w.is_text cut in
    let merges : HasMerging w.session = (spelled w.cert.runs, w.checked.1.merging) in
    let faultless : IsFaultless w.session = record { is_session = w.fits; shape = w.checked.0; clean = (safe_exactly_if_clean w.session w.fits w.checked.0 merges).0 w.safe } in
    k.is_status ∙ judged_clean w.session first faultless merges texts.session k.value k.is_right
