-- What a run of a migration leaves, and what is promised about it.
use Rattle.std.specs.Prelude.{◌≡◌, ℕ, ◌<◌, ◌==◌, ◌⊎◌, ◌++◌, List, [], map, length, Option, Some, None, slice_get, slice_index_or, if◌then◌else◌}
use Rattle.std.specs.List.{filter_map}
use Rattle.migration_types.specs.declared.records.GuestRec.{GuestRec}
use Rattle.migration_types.specs.declared.records.GuestRec.TheVariants.{Read, Write, Release}
use Rattle.migration_types.specs.declared.records.SourceRec.TheVariants.{Done}
use Rattle.migration_types.specs.Memory.{page_of}
use Rattle.migration_types.specs.declared.session.Logs.{Logs}
use Rattle.migration_types.specs.Sessions.{Recorded, recorded}
use Rattle.migration_events.specs.declared.ops.Op.{Op}
use Rattle.migration_events.specs.declared.ops.Op.TheVariants.{Read as ReadCell, Write as WriteCell, Release as ReleasePage}
use Rattle.page_store.specs.Frames.{Frames, memory_of}
use Rattle.migration_types.specs.Certs.{Certified}
use Rattle.audit_model.specs.Flat.{flat}
use Rattle.audit_model.specs.Mergings.{spelled}
use Rattle.audit_model.specs.World.{IsSafe}
use Rattle.cert_check.specs.Verdicts.{IsVerdict}
use Rattle.cert_check.specs.declared.verdict.Verdict.TheVariants.{Yes}
use Rattle.migration_model.specs.Promise.{HasEachOwed}
use Rattle.guest_script.specs.declared.script.Scenario.{Scenario}
use Rattle.guest_script.specs.declared.vcpus.Vcpu.{Vcpu}
use Rattle.audit_report.specs.declared.report.Report.TheVariants.{Clean}
use Rattle.audit_report.specs.Reports.{IsReport, IsClean}
use Rattle.guest_script.specs.declared.transcript.Answered.{Answered}
use Rattle.host_checks.specs.declared.outcome.Migrated.{Migrated}
use Rattle.host_checks.specs.declared.outcome.RunFault.{RunFault}
use Rattle.host_checks.specs.declared.outcome.RunFault.TheVariants.{LogFull, Memory, Threads, AuditRefused, TranscriptDiffers, Link}

abbrev pub answered : Op → ℕ → Answered
answered op answer = record { op = op; answer = answer }

-- the virtual processor and the answered operation of a record of the guest
abbrev pub told_by : GuestRec → Option (ℕ × Answered)
told_by (Read vcpu page cell value) = Some (vcpu, answered (ReadCell page cell) value)
told_by (Write vcpu page cell value) = Some (vcpu, answered (WriteCell page cell value) value)
told_by (Release vcpu page) = Some (vcpu, answered (ReleasePage page) 0)
told_by _ = None

-- an answered operation, if it is this virtual processor's
abbrev pub if_own : ℕ → Option (ℕ × Answered) → Option Answered
if_own vcpu None = None
if_own vcpu (Some told) = if told.0 == vcpu then Some told.1 else None

-- a virtual processor's part of the guest's log
abbrev pub part_of : ℕ → List GuestRec → List Answered
part_of vcpu log = filter_map (λ r. if_own vcpu (told_by r)) log

-- the operations of a transcript
abbrev pub ops_of : List Answered → List Op
ops_of transcript = map (λ a. a.op) transcript

-- the operations that a script gives a virtual processor
abbrev pub asked_of : Vcpu → List Op
asked_of vcpu = vcpu.before_move ++ vcpu.after_move

-- one transcript for each virtual processor, with its operations in order, each once
abbrev pub AreOfScript : List Vcpu → List (List Answered) → Type 0
AreOfScript vcpus transcripts = map ops_of transcripts ≡ map asked_of vcpus

-- each transcript is its virtual processor's part of the guest's log, which has operations of no other virtual
-- processor
abbrev pub AreOfLog : List GuestRec → List (List Answered) → Type 0
AreOfLog log transcripts = (vcpu : ℕ) → slice_index_or transcripts vcpu [] ≡ part_of vcpu log

-- the source was told that every owed page is placed
abbrev pub IsDone : Recorded → Type 0
IsDone s = (n : ℕ) × (slice_get s.source n ≡ Some Done)

-- after the guest's log, each page is that of one machine that never moved
pub record IsFlatStore (s : Recorded) (store : Frames) : Type 0 where
  pub geometry : store.geometry ≡ s.geometry
  pub pages : (page : ℕ) → page < s.geometry.pages → page_of s.geometry.cells (memory_of store) page ≡ page_of s.geometry.cells (flat s (length s.guest)) page

-- everything that is checked about what a run of a script with these virtual processors left, apart from its audit
pub record Agrees (vcpus : List Vcpu) (s : Recorded) (cert : Certified) (transcripts : List (List Answered)) (frames : Frames) : Type 0 where
  pub operations : AreOfScript vcpus transcripts
  pub answers : AreOfLog s.guest transcripts
  pub done : IsDone s
  pub owed : HasEachOwed s (spelled cert.runs)
  pub store : IsFlatStore s frames

-- one of these does not hold
abbrev pub Differs : List Vcpu → Recorded → Certified → List (List Answered) → Frames → Type 0
Differs vcpus s cert transcripts frames =
    (¬ AreOfScript vcpus transcripts) ⊎ ((¬ IsDone s) ⊎ ((¬ AreOfLog s.guest transcripts) ⊎ ((¬ HasEachOwed s (spelled cert.runs)) ⊎ (¬ IsFlatStore s frames))))

-- a session has the script's version, machine and initial pages
pub record IsOfScript (script : Scenario) (s : Recorded) : Type 0 where
  pub version : s.version ≡ script.version
  pub geometry : s.geometry ≡ script.geometry
  pub init : s.init ≡ script.init

-- what a run of a script leaves is of the script, and everything that is promised about it holds
pub record HasMigrated (script : Scenario) (m : Migrated) : Type 0 where
  pub version : m.session.version ≡ script.version
  pub geometry : m.session.geometry ≡ script.geometry
  pub init : m.session.init ≡ script.init
  pub checked : IsVerdict m.session m.cert Yes
  pub safe : IsSafe m.session
  pub agrees : Agrees script.vcpus m.session m.cert m.transcripts m.store

-- a report with which an audit is refused is on a session of the script, and does not say that it is clean
abbrev pub IsRunFault : Scenario → RunFault → Type 0
IsRunFault script LogFull = Unit {0}
IsRunFault script Memory = Unit {0}
IsRunFault script Threads = Unit {0}
IsRunFault script (AuditRefused report) = (logs : Logs) × IsReport (recorded script.version script.geometry script.init logs) report × ¬ IsClean report
IsRunFault script TranscriptDiffers = Unit {0}
IsRunFault script Link = Unit {0}

-- why logs do not make a session: a record is beyond its limits, or memory ran out
abbrev pub IsUnread : RunFault → Type 0
IsUnread LogFull = ⊥
IsUnread Memory = Unit {0}
IsUnread Threads = ⊥
IsUnread (AuditRefused report) = ⊥
IsUnread TranscriptDiffers = Unit {0}
IsUnread Link = ⊥

-- why a session has no certificate: its audit's report does not say that it is clean, or memory ran out
abbrev pub IsUnclean : Recorded → RunFault → Type 0
IsUnclean s LogFull = ⊥
IsUnclean s Memory = Unit {0}
IsUnclean s Threads = ⊥
IsUnclean s (AuditRefused report) = IsReport s report × ¬ IsClean report
IsUnclean s TranscriptDiffers = ⊥
IsUnclean s Link = ⊥

-- Why what a run left is refused: its audit's report does not say that the session is clean; or the report does, and
-- another check fails; or memory ran out.
abbrev pub IsRefused : List Vcpu → Recorded → List (List Answered) → Frames → RunFault → Type 0
IsRefused vcpus s transcripts frames LogFull = ⊥
IsRefused vcpus s transcripts frames Memory = Unit {0}
IsRefused vcpus s transcripts frames Threads = ⊥
IsRefused vcpus s transcripts frames (AuditRefused report) = IsReport s report × ¬ IsClean report
IsRefused vcpus s transcripts frames TranscriptDiffers = (cert : Certified) × IsReport s (Clean cert) × Differs vcpus s cert transcripts frames
IsRefused vcpus s transcripts frames Link = ⊥
