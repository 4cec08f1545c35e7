-- The records of a log that is gathered from its files.
use Rattle.std.specs.Prelude.{◌≡◌, ◌<◌, ℕ, List, [], ◌∷◌, ◌++◌, Option, Some, None, length, map}
use Rattle.std.specs.List.{AllByRecursion}
use Rattle.recorder_files.specs.declared.lines.Party.{Party}
use Rattle.recorder_files.specs.declared.turns.Turn.TheVariants.{Missing as NoneThere}
use Rattle.recorder_files.specs.Logs.{Came, Gathering, IsGatherFault, SayLog, Stops}
use Rattle.recorder_files.specs.declared.taking.LogFault.{LogFault}
use Rattle.recorder_files.specs.declared.taking.LogFault.TheVariants.{Files, Record, Memory}
use Rattle.recorder_files.specs.declared.taking.TakingFault.{TakingFault}
use Rattle.recorder_files.specs.declared.taking.TakingFault.TheVariants.{Log, Unfit}

-- What keeps the files from saying a log of records, behind those that came of them: what keeps the files from being those of a
-- log, or the number of a record whose text is the line of none.
abbrev pub IsLogFault : {X : Type 0} → (X → List ℕ) → (X → Type 0) → Party → List (Option (List ℕ)) → Gathering → LogFault → Type 0
IsLogFault {X} line IsOf party knowns g (Files fault) = (records : List X) × AllByRecursion IsOf records × IsGatherFault party knowns g (map line records) fault
IsLogFault {X} line IsOf party knowns g (Record n) = (records : List X) × AllByRecursion IsOf records × (n ≡ length records) × ((text : List ℕ) × Came party knowns g (map line records ++ text ∷ []) × ((r : X) → IsOf r → text ≡ line r → ⊥))
IsLogFault {X} line IsOf party knowns g Memory = Unit {0}

-- ---- up to where the log goes

-- The log goes up to there: its files say it; or no file has the next record, and this is the least number of one that is left.
abbrev pub EndsAt : Party → List (Option (List ℕ)) → Gathering → List (List ℕ) → Option ℕ → Type 0
EndsAt party knowns g log None = SayLog party knowns g.files log
EndsAt party knowns g log (Some n) = (length log < n) × Stops party knowns g log (NoneThere n)

-- The files say a log of these records up to there: it is their lines. `IsOf` says which records are the party's.
pub record SayUpTo {X : Type 0} (line : X → List ℕ) (IsOf : X → Type 0) (party : Party) (knowns : List (Option (List ℕ))) (g : Gathering) (hole : Option ℕ) (records : List X) : Type 0 where
  pub log : EndsAt party knowns g (map line records) hole
  pub each : AllByRecursion IsOf records

-- the record of this number came, and is not for the taker that took those before it
pub record IsUnfitAt {X T S : Type 0} (line : X → List ℕ) (IsOf : X → Type 0) (Takes : T → S → T → S → List X → Type 0) (IsUnfit : T → ℕ → X → Type 0) (party : Party) (knowns : List (Option (List ℕ))) (g : Gathering) (taker : T) (onto : S) (n : ℕ) : Type 0 where
  pub records : List X
  pub each : AllByRecursion IsOf records
  pub number : n ≡ length records
  pub rec : X
  pub is_of : IsOf rec
  pub came : Came party knowns g (map line records ++ line rec ∷ [])
  pub at : T
  pub at_onto : S
  pub took : (first : T) (from : S) → Takes first from taker onto [] → Takes first from at at_onto records
  pub unfit : IsUnfit at n rec

-- what keeps a taker from the records of a log
abbrev pub IsTakingFault : {X T S : Type 0} → (X → List ℕ) → (X → Type 0) → (T → S → T → S → List X → Type 0) → (T → ℕ → X → Type 0) → Party → List (Option (List ℕ)) → Gathering → T → S → TakingFault → Type 0
IsTakingFault {X} {T} {S} line IsOf Takes IsUnfit party knowns g taker onto (Log fault) = IsLogFault line IsOf party knowns g fault
IsTakingFault {X} {T} {S} line IsOf Takes IsUnfit party knowns g taker onto (Unfit n) = IsUnfitAt line IsOf Takes IsUnfit party knowns g taker onto n
