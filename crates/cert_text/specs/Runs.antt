-- The text of a merging's runs. Numbers are in decimal, with no sign and no leading zero.
use Rattle.std.specs.Prelude.{◌≡◌, ℕ, List, [], ◌∷◌, ◌++◌, codes}
use Rattle.std.specs.Fmt.{decimal}
pub use Rattle.text_lines.specs.Text.{closing}
use Rattle.text_lines.specs.Counted.{counted}
use Rattle.migration_types.specs.declared.cert.Run.{Run}
use Rattle.migration_types.specs.declared.version.Version.{Version}
use Rattle.migration_types.specs.declared.version.Version.TheVariants.{Two}
use Rattle.migration_types.specs.declared.size.Size.{Size}
use Rattle.migration_types.specs.declared.size.Size.TheVariants.{Large}
use Rattle.migration_types.specs.Certs.{AreRuns}
pub use Rattle.migration_types.specs.Receipts.{log_word}

abbrev pub runs_text_header : List ℕ
runs_text_header = codes "postcopy-runs 1"

abbrev pub runs_key : List ℕ
runs_key = codes "runs "

-- a run's log, a space, and its count
abbrev pub run_text : Run → List ℕ
run_text run = log_word run.log ++ 32 ∷ decimal run.count

abbrev pub run_line : Run → List ℕ
run_line run = codes "run " ++ run_text run

-- the number of runs, a line for each, and a closing line
abbrev pub runs_lines : List Run → List (List ℕ)
runs_lines runs = counted runs_key run_line runs (closing ∷ [])

-- these lines spell these runs, which are within all limits of a version and a size
abbrev pub SpellsRunLines : Version → Size → List Run → List (List ℕ) → Type 0
SpellsRunLines version size runs lines = AreRuns version size runs × (lines ≡ runs_lines runs)

-- These lines are the text of these runs, which are within the limits of the second version and of the large size. Runs
-- have the same text for sessions of both versions and of both sizes. A text of two runs:
--   postcopy-runs 1
--   runs 2
--   run guest 3
--   run link 1
--   end
abbrev pub SpellsRuns : List Run → List (List ℕ) → Type 0
SpellsRuns runs lines = AreRuns Two Large runs × (lines ≡ runs_text_header ∷ runs_lines runs)
