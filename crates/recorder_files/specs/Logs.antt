-- A log, gathered from the files of its party.
use Rattle.std.specs.Prelude.{◌≡◌, ℕ, ◌<◌, ◌≤◌, Bool, true, false, ◌==◌, List, [], Option, Some, None, IfSome, length, slice_get, slice_index_or, map}
use Rattle.recorder_files.specs.declared.lines.Party.{Party}
use Rattle.recorder_files.specs.declared.turns.Turn.{Turn}
use Rattle.recorder_files.specs.declared.turns.Turn.TheVariants.{Twice as TwiceThere, Missing as NoneThere}
use Rattle.recorder_files.specs.Gathered.{Numbered, IsGathered, IsTurn}
use Rattle.recorder_files.specs.Said.{Standing, CameTo, Goes, IsFault, Says}
use Rattle.recorder_files.specs.declared.gatherers.GatherFault.{GatherFault}
use Rattle.recorder_files.specs.declared.gatherers.GatherFault.TheVariants.{File, Twice, Missing, Memory}

-- ---- where a gatherer stands

-- its files, the number of each one's next record, which file's record came last, and the number of the log's next record
pub record Gathering : Type 0 where
  pub files : List Standing
  pub heads : List (Option ℕ)
  pub given : Option ℕ
  pub number : ℕ

-- the text of the record that came last
abbrev pub text_in : List Standing → Option ℕ → List ℕ
text_in files None = []
text_in files (Some i) = slice_index_or (map (λ s. s.text) files) i []

abbrev pub is_given : Option ℕ → ℕ → Bool
is_given None k = false
is_given (Some i) k = i == k

-- ---- what came of the files

-- These records were taken of a file. Where it is to be read on, nothing is known of what is next; else this is its next record's
-- number, or it has no more. What is next is no lower than `low`.
abbrev pub IsAt : Party → Option (List ℕ) → Standing → Option ℕ → Numbered (List ℕ) → ℕ → Bool → Type 0
IsAt party known s head taken low true = CameTo party known s taken × (low ≤ s.low)
IsAt party known s head taken low false = Goes party known s taken head × IfSome head (λ n. low ≤ n)

-- of each file with these bytes, where they are known
pub record AreAt (party : Party) (knowns : List (Option (List ℕ))) (files : List Standing) (heads : List (Option ℕ)) (takens : List (Numbered (List ℕ))) (low : ℕ) (is_read_on : ℕ → Bool) : Type 0 where
  pub many_knowns : length knowns ≡ length files
  pub many_heads : length heads ≡ length files
  pub many_takens : length takens ≡ length files
  pub each : (k : ℕ) (known : Option (List ℕ)) (s : Standing) (head : Option ℕ) (taken : Numbered (List ℕ)) → slice_get knowns k ≡ Some known → slice_get files k ≡ Some s → slice_get heads k ≡ Some head → slice_get takens k ≡ Some taken → IsAt party known s head taken low (is_read_on k)

-- files with these bytes, where they are known, of which nothing but their heads was read
pub record AreBegun (party : Party) (knowns : List (Option (List ℕ))) (files : List Standing) : Type 0 where
  pub many : length knowns ≡ length files
  pub each : (k : ℕ) (known : Option (List ℕ)) (s : Standing) → slice_get knowns k ≡ Some known → slice_get files k ≡ Some s → CameTo party known s []

-- nothing was taken of any file
abbrev pub nothing_of : List Standing → List (Numbered (List ℕ))
nothing_of files = map (λ _. []) files

-- this log came of the files: what was taken of them, gathered
pub record Came (party : Party) (knowns : List (Option (List ℕ))) (g : Gathering) (log : List (List ℕ)) : Type 0 where
  pub takens : List (Numbered (List ℕ))
  pub are_at : AreAt party knowns g.files g.heads takens g.number (is_given g.given)
  pub gathered : IsGathered takens log
  pub number : g.number ≡ length log

-- The files say this log: each says its records, and these, gathered, are the log.
pub record SayLog (party : Party) (knowns : List (Option (List ℕ))) (files : List Standing) (log : List (List ℕ)) : Type 0 where
  pub takens : List (Numbered (List ℕ))
  pub many_knowns : length knowns ≡ length files
  pub many_takens : length takens ≡ length files
  pub each : (k : ℕ) (known : Option (List ℕ)) (s : Standing) (taken : Numbered (List ℕ)) → slice_get knowns k ≡ Some known → slice_get files k ≡ Some s → slice_get takens k ≡ Some taken → Says party known (Some (record { name = s.name; opening = s.opening; records = taken; last = s.last }))
  pub gathered : IsGathered takens log

-- ---- where they are no log

-- this log came of the files, and each was read on to its next record, of which this is the turn
pub record Stops (party : Party) (knowns : List (Option (List ℕ))) (g : Gathering) (log : List (List ℕ)) (turn : Turn) : Type 0 where
  pub takens : List (Numbered (List ℕ))
  pub are_at : AreAt party knowns g.files g.heads takens (length log) (λ _. false)
  pub gathered : IsGathered takens log
  pub is_turn : IsTurn g.heads (length log) turn

-- What keeps the files from being those of a log, behind this one that came of them: what is wrong with a file; two files that have
-- the next record; or the least number of a record that is left, where the next record's own is in no file.
abbrev pub IsGatherFault : Party → List (Option (List ℕ)) → Gathering → List (List ℕ) → GatherFault → Type 0
IsGatherFault party knowns g log (File i fault) = (known : Option (List ℕ)) × (slice_get knowns i ≡ Some known) × IsFault party known fault
IsGatherFault party knowns g log (Twice i j) = Stops party knowns g log (TwiceThere i j)
IsGatherFault party knowns g log (Missing n) = (length log < n) × Stops party knowns g log (NoneThere n)
IsGatherFault party knowns g log Memory = Unit {0}
