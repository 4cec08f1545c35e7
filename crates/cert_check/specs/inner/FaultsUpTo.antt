-- The misshapen records of a session before one of its records.
use Rattle.std.specs.Prelude.{◌≡◌, ℕ, ◌<◌, ◌⊎◌, false, List}
use Rattle.std.specs.List.{All, AllPairs}
use Rattle.migration_types.specs.declared.records.LogName.{LogName}
use Rattle.migration_types.specs.Receipts.{Name, log_index}
use Rattle.migration_types.specs.Sessions.{Recorded}
use Rattle.audit_model.specs.declared.reasons.ShapeReason.{ShapeReason}
use Rattle.audit_model.specs.Shape.{is_right}
use Rattle.cert_check.specs.declared.verdict.ShapeFault.{ShapeFault}
use Rattle.cert_check.specs.ShapeFaults.{IsMisshapen, Names, name_of}

-- all misshapen records among these, in the order of their lines
pub record AreFaultsAmong (Among : Name → Type 0) (s : Recorded) (found : List ShapeFault) : Type 0 where
  pub ascending : AllPairs (λ a b. a.line < b.line) found
  pub among : All (λ fault. Among (name_of fault)) found
  pub misshapen : All (IsMisshapen s) found
  pub all : (reason : ShapeReason) (name : Name) → is_right s reason name ≡ false → Among name → Names found name

-- the record is of an earlier log, or stands before this place of this one
abbrev pub IsUpTo : LogName → ℕ → Name → Type 0
IsUpTo log n name = (log_index name.0 < log_index log) ⊎ ((name.0 ≡ log) × (name.1 < n))

abbrev pub AreFaultsUpTo : Recorded → LogName → ℕ → List ShapeFault → Type 0
AreFaultsUpTo s log n found = AreFaultsAmong (IsUpTo log n) s found

-- the record is of one of the first so many logs
abbrev pub IsInLogs : ℕ → Name → Type 0
IsInLogs count name = log_index name.0 < count
