-- The line and the status of the outcome of a replay along runs.
use Rattle.std.specs.Prelude.{◌≡◌, ℕ, List, [], ◌∷◌, ◌++◌, codes}
use Rattle.text_lines.specs.Text.{ended}
use Rattle.audit_report.specs.ReportText.{shape_line}
use Rattle.judged_texts.specs.declared.replaying.Outcome.{Outcome}
use Rattle.judged_texts.specs.declared.replaying.Outcome.TheVariants.{SessionText, RunsText, Shape, NoMerging, Broken, Safe}
use Rattle.judged_texts.specs.Replayed.{IsOutcome}
use Rattle.command_texts.specs.Answers.{IsAnswer, numbered}

-- the line of an outcome
abbrev pub outcome_line : Outcome → List ℕ
outcome_line (SessionText n) = numbered (codes "session-text line ") n
outcome_line (RunsText n) = numbered (codes "runs-text line ") n
outcome_line (Shape fault) = ended (shape_line fault ∷ [])
outcome_line NoMerging = codes "no-merging\n"
outcome_line (Broken n) = numbered (codes "broken line ") n
outcome_line Safe = codes "safe\n"

-- 0 for safe, and 1 for any other outcome
abbrev pub outcome_status : Outcome → ℕ
outcome_status Safe = 0
outcome_status other = 1

-- beside it, it is told why runs are no merging, after the name of their text
abbrev pub AddsReason : List ℕ → Outcome → List ℕ → List ℕ → Type 0
AddsReason name NoMerging before after =
    after ≡ before ++ (name ++ codes ": these runs do not take each record of the session once, after the record that it names\n")
AddsReason name other before after = after ≡ before

abbrev pub AddsReasonOf : List ℕ × List ℕ → List ℕ → List ℕ → List ℕ → Type 0
AddsReasonOf texts name before after = (outcome : Outcome) × IsOutcome texts.0 texts.1 outcome × AddsReason name outcome before after

-- `replay`: the outcome for the session along the runs
abbrev pub IsReplayAnswer : List ℕ → List ℕ → List ℕ → ℕ → Type 0
IsReplayAnswer session runs = IsAnswer (IsOutcome session runs) outcome_line outcome_status
