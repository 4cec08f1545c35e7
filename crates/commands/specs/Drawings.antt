-- The result of drawing a session.
use Rattle.std.specs.Prelude.{ℕ, List, codes}
use Rattle.text_lines.specs.Text.{IsSpelling, IsRefusalLine}
use Rattle.migration_types.specs.declared.cert.Run.{Run}
use Rattle.migration_types.specs.Sessions.{Recorded}
use Rattle.session_log.specs.Grammar.{SpellsSession}
use Rattle.cert_text.specs.Order.{SpellsOrder}
use Rattle.audit_report.specs.declared.report.Report.{Report}
use Rattle.audit_report.specs.Reports.{IsReport}
use Rattle.migration_types.specs.declared.topic.Topic.{Topic}
use Rattle.order_picture.specs.Svg.{IsPictureText, IsPictureTextAlong}
use Rattle.command_texts.specs.Answers.{IsAnswer, numbered}

-- a text is refused at this line, or this is the picture
pub data Drawing : Type 0 where
  SessionText : ℕ → Drawing
  RunsText : ℕ → Drawing
  Drawn : List ℕ → Drawing

-- the text is that of a picture about this topic, in the order of the session's report
abbrev pub IsDrawn : Topic → Recorded → List ℕ → Type 0
IsDrawn topic s text = (r : Report) × IsReport s r × IsPictureText s r topic text

-- the text is that of a picture along these runs, with the report above it
abbrev pub IsDrawnAlong : Topic → List Run → Recorded → List ℕ → Type 0
IsDrawnAlong topic runs s text = (r : Report) × IsReport s r × IsPictureTextAlong s r topic runs text

-- the result for the text of a session
abbrev pub IsDrawing : Topic → List ℕ → Drawing → Type 0
IsDrawing topic session (SessionText line) = IsRefusalLine SpellsSession session line
IsDrawing topic session (RunsText line) = ⊥
IsDrawing topic session (Drawn text) = (s : Recorded) × IsSpelling SpellsSession s session × IsDrawn topic s text

-- the result for the texts of a session and of an order; if both are refused, the line is that of the session
abbrev pub IsDrawingAlong : Topic → List ℕ → List ℕ → Drawing → Type 0
IsDrawingAlong topic session runs (SessionText line) = IsRefusalLine SpellsSession session line
IsDrawingAlong topic session runs (RunsText line) = (s : Recorded) × IsSpelling SpellsSession s session × IsRefusalLine SpellsOrder runs line
IsDrawingAlong topic session runs (Drawn text) = (s : Recorded) × (order : List Run) × IsSpelling SpellsSession s session × IsSpelling SpellsOrder order runs × IsDrawnAlong topic order s text

abbrev pub drawing_text : Drawing → List ℕ
drawing_text (SessionText line) = numbered (codes "session-text line ") line
drawing_text (RunsText line) = numbered (codes "runs-text line ") line
drawing_text (Drawn text) = text

-- 0 for a picture, and 1 for a text that is refused
abbrev pub drawing_status : Drawing → ℕ
drawing_status (Drawn text) = 0
drawing_status other = 1

-- `draw` with a session: the result, about this topic
abbrev pub IsDrawAnswer : Topic → List ℕ → List ℕ → ℕ → Type 0
IsDrawAnswer topic session = IsAnswer (IsDrawing topic session) drawing_text drawing_status

-- `draw` with a session and runs: the result, about this topic
abbrev pub IsDrawAlongAnswer : Topic → List ℕ × List ℕ → List ℕ → ℕ → Type 0
IsDrawAlongAnswer topic texts = IsAnswer (IsDrawingAlong topic texts.0 texts.1) drawing_text drawing_status
