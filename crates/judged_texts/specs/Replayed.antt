-- The replay of a session along the runs of a merging.
use Rattle.std.specs.Prelude.{◌≡◌, ℕ, List, Option, Some, None}
use Rattle.text_lines.specs.Text.{IsSpelling, IsRefusalLine}
use Rattle.migration_types.specs.declared.cert.Run.{Run}
use Rattle.migration_types.specs.Receipts.{Name}
use Rattle.migration_types.specs.Sessions.{Recorded, line_of}
use Rattle.session_log.specs.Grammar.{SpellsSession}
use Rattle.cert_text.specs.Order.{SpellsOrder}
use Rattle.audit_model.specs.Mergings.{IsMerging, spelled}
use Rattle.audit_model.specs.Shape.{IsRightShape}
use Rattle.merge_runs.specs.Replays.{IsReplay}
use Rattle.merge_runs.specs.declared.outcome.Replay.{Replay}
use Rattle.cert_check.specs.Verdicts.{IsShapeFault}
use Rattle.judged_texts.specs.declared.replaying.Outcome.{Outcome}
use Rattle.judged_texts.specs.declared.replaying.Outcome.TheVariants.{SessionText, RunsText, Shape, NoMerging, Broken, Safe}

-- the replay of the merging that these runs spell has this first broken record
abbrev pub Replays : Recorded → List Run → Option Name → Type 0
Replays s runs broken = (replay : Replay) × IsReplay s (spelled runs) replay × (replay.first_broken ≡ broken)

-- The first of these that applies: the session does not have the right shape, the runs do not spell a merging, a record
-- of the merging is the first whose demand fails, the merging is safe.
abbrev pub IsReplayed : Recorded → List Run → Outcome → Type 0
IsReplayed s runs (SessionText line) = ⊥
IsReplayed s runs (RunsText line) = ⊥
IsReplayed s runs (Shape fault) = IsShapeFault s fault
IsReplayed s runs NoMerging = IsRightShape s × (IsMerging s (spelled runs) → ⊥)
IsReplayed s runs (Broken line) = IsRightShape s × (name : Name) × Replays s runs (Some name) × (line ≡ line_of s name)
IsReplayed s runs Safe = IsRightShape s × Replays s runs None

-- the text of the order is refused, or this is the result for the runs that it gives
abbrev pub IsAlong : Recorded → List ℕ → Outcome → Type 0
IsAlong s runs (RunsText line) = IsRefusalLine SpellsOrder runs line
IsAlong s runs outcome = (order : List Run) × IsSpelling SpellsOrder order runs × IsReplayed s order outcome

-- the session's text is refused, or this is the result for the session that it spells
abbrev pub IsOutcome : List ℕ → List ℕ → Outcome → Type 0
IsOutcome session runs (SessionText line) = IsRefusalLine SpellsSession session line
IsOutcome session runs outcome = (s : Recorded) × IsSpelling SpellsSession s session × IsAlong s runs outcome
