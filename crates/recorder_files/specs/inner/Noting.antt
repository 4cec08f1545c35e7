-- A gathered log, as its records are taken.
use Rattle.std.specs.Prelude.{◌≡◌, ℕ, List, [], ◌∷◌, ◌++◌, Option, length, map}
use Rattle.std.specs.List.{AllByRecursion}
use Rattle.recorder_files.specs.declared.lines.Party.{Party}
use Rattle.recorder_files.specs.Logs.{Came, Gathering}
use Rattle.recorder_files.specs.declared.taking.LogFault.TheVariants.{Files, Record, Memory}
use Rattle.recorder_files.specs.declared.taking.TakingFault.{TakingFault}
use Rattle.recorder_files.specs.declared.taking.TakingFault.TheVariants.{Log, Unfit}

-- from one state of a taker, with what records were put onto, it came to another by these records
abbrev pub Adds : {X T S : Type 0} → (T → S → T → S → List X → Type 0) → T → S → T → S → List X → Type 0
Adds {X} {T} {S} Takes before onto after new records = (first : T) (from : S) → Takes first from before onto [] → Takes first from after new records

-- these records came of the files, and were taken
pub record Notes {X T S : Type 0} (line : X → List ℕ) (IsOf : X → Type 0) (Takes : T → S → T → S → List X → Type 0) (party : Party) (knowns : List (Option (List ℕ))) (g : Gathering) (before : T) (onto : S) (after : T) (new : S) : Type 0 where
  pub records : List X
  pub came : Came party knowns g (map line records)
  pub each : AllByRecursion IsOf records
  pub took : Adds Takes before onto after new records

-- the record of this number, which has this text, was taken
pub record TakesText {X T S : Type 0} (line : X → List ℕ) (IsOf : X → Type 0) (Takes : T → S → T → S → List X → Type 0) (text : List ℕ) (number : ℕ) (before : T) (onto : S) (after : T) (new : S) : Type 0 where
  pub rec : X
  pub is_of : IsOf rec
  pub is_line : text ≡ line rec
  pub took : (first : T) (from : S) (records : List X) → number ≡ length records → Takes first from before onto records → Takes first from after new (records ++ rec ∷ [])

-- a record with this text is not for the taker
pub record IsUnfitText {X T : Type 0} (line : X → List ℕ) (IsOf : X → Type 0) (IsUnfit : T → ℕ → X → Type 0) (text : List ℕ) (number : ℕ) (taker : T) : Type 0 where
  pub rec : X
  pub is_of : IsOf rec
  pub is_line : text ≡ line rec
  pub unfit : IsUnfit taker number rec

-- the text of the record of this number is the line of none, or the record is not for the taker, or memory was refused
abbrev pub IsTextFault : {X T : Type 0} → (X → List ℕ) → (X → Type 0) → (T → ℕ → X → Type 0) → List ℕ → ℕ → T → TakingFault → Type 0
IsTextFault {X} {T} line IsOf IsUnfit text number taker (Log (Files fault)) = ⊥
IsTextFault {X} {T} line IsOf IsUnfit text number taker (Log (Record n)) = (n ≡ number) × ((r : X) → IsOf r → text ≡ line r → ⊥)
IsTextFault {X} {T} line IsOf IsUnfit text number taker (Log Memory) = Unit {0}
IsTextFault {X} {T} line IsOf IsUnfit text number taker (Unfit n) = (n ≡ number) × IsUnfitText line IsOf IsUnfit text number taker
