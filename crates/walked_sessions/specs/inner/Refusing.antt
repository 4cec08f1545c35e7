-- Why a log is not gone through.
use Rattle.std.specs.Prelude.{◌≡◌, ◌⊎◌, ℕ, List, Option, Some, slice_get}
use Rattle.migration_types.specs.declared.records.LogName.{LogName}
use Rattle.recorder_files.specs.declared.delivering.Message.{Message}
use Rattle.recorder_files.specs.declared.lines.Party.{Party}
use Rattle.recorder_files.specs.declared.lines.Party.TheVariants.{Of}
use Rattle.recorder_files.specs.declared.taking.LogFault.{LogFault}
use Rattle.recorder_files.specs.Logs.{Gathering}
use Rattle.recorder_files.specs.Records.{IsUnfitAt}
use Rattle.walked_sessions.specs.declared.files.WalkFault.{WalkFault}
use Rattle.walked_sessions.specs.declared.files.WalkFault.TheVariants.{Log, OwnLog, Changed, Memory}
use Rattle.walked_sessions.specs.Faults.{HasLogFault, IsMemory}
use Rattle.walked_sessions.specs.Walks.{Bytes, HasBoth, IsTakenBy}

-- this fault of a log, or that memory was refused
abbrev pub IsFaultOf : LogName → LogFault → WalkFault → Type 0
IsFaultOf log why (Log other fault) = (other ≡ log) × (fault ≡ why) × (IsMemory why → ⊥)
IsFaultOf log why (OwnLog other by n) = ⊥
IsFaultOf log why Changed = ⊥
IsFaultOf log why Memory = Unit {0}

-- what is wrong with a log, or that memory was refused
abbrev pub IsPlain : {X : Type 0} → (X → List ℕ) → (X → Type 0) → LogName → Party → List (Option (List ℕ)) → WalkFault → Type 0
IsPlain {X} line IsOf log party knowns (Log other fault) = (other ≡ log) × HasLogFault line IsOf party knowns fault
IsPlain {X} line IsOf log party knowns (OwnLog other by n) = ⊥
IsPlain {X} line IsOf log party knowns Changed = ⊥
IsPlain {X} line IsOf log party knowns Memory = Unit {0}

-- a record of a log's files is not for the taker
pub record Unfits {X T S : Type 0} (line : X → List ℕ) (IsOf : X → Type 0) (Takes : T → S → T → S → List X → Type 0) (IsUnfit : T → ℕ → X → Type 0) (party : Party) (knowns : List (Option (List ℕ))) (taker : T) (onto : S) : Type 0 where
  pub gathering : Gathering
  pub n : ℕ
  pub at : IsUnfitAt line IsOf Takes IsUnfit party knowns gathering taker onto n

-- a log's fault, or that of a record that is not for the taker
abbrev pub IsTakeFault : {X T S : Type 0} → (X → List ℕ) → (X → Type 0) → (T → S → T → S → List X → Type 0) → (T → ℕ → X → Type 0) → LogName → Party → List (Option (List ℕ)) → T → S → WalkFault → WalkFault → Type 0
IsTakeFault {X} {T} {S} line IsOf Takes IsUnfit log party knowns taker onto unfit fault = IsPlain line IsOf log party knowns fault ⊎ ((fault ≡ unfit) × Unfits line IsOf Takes IsUnfit party knowns taker onto)

-- the fault of a log with records of its own, where a record of another log takes this message
pub record IsTaking (log : LogName) (message : Message) (fault : WalkFault) : Type 0 where
  pub by : LogName
  pub n : ℕ
  pub is : fault ≡ OwnLog log by n
  pub taken : IsTakenBy by n message

-- the same, where one of these messages is taken
pub record IsTakingOne (log : LogName) (messages : List Message) (fault : WalkFault) : Type 0 where
  pub place : ℕ
  pub message : Message
  pub there : slice_get messages place ≡ Some message
  pub taking : IsTaking log message fault

-- what is wrong with the log of a carrier, or that its files have a record beside these messages, or that memory was refused
abbrev pub IsCarrierFault : {X : Type 0} → (X → List ℕ) → (X → Type 0) → LogName → Bytes → List Message → WalkFault → Type 0
IsCarrierFault {X} line IsOf log bytes messages (Log other fault) = (other ≡ log) × HasLogFault line IsOf (Of log) (bytes log) fault
IsCarrierFault {X} line IsOf log bytes messages (OwnLog other by n) = (other ≡ log) × HasBoth line IsOf (Of log) (bytes log) messages by n
IsCarrierFault {X} line IsOf log bytes messages Changed = ⊥
IsCarrierFault {X} line IsOf log bytes messages Memory = Unit {0}
