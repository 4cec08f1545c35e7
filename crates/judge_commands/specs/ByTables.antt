-- Stories whose line numbers come from a table.
use Rattle.std.specs.Prelude.{◌≡◌, ℕ, ◌⊎◌, List, Option, codes}
use Rattle.text_lines.specs.Text.{IsSpelling, IsRefusalLine}
use Rattle.completeness.specs.declared.lack.Extent.{Extent}
use Rattle.audit_report.specs.ToldLines.{line_by}
use Rattle.command_texts.specs.Answers.{numbered}
use Rattle.windows.specs.Tables.{SpellsTable}
use Rattle.session_answers.specs.JsonText.{table_object}
use Rattle.session_answers.specs.declared.forms.Story.{Story}
use Rattle.session_answers.specs.declared.forms.LackForm.{LackForm}
use Rattle.session_answers.specs.declared.forms.LackForm.TheVariants.{Line, Words, Object}
use Rattle.session_answers.specs.Lacks.{story_lack}
use Rattle.judge_commands.specs.Completed.{IsExplained}

-- the refusal of a table at this line, by the form of what a session lacks
abbrev pub refused_table : LackForm → ℕ → List ℕ
refused_table Line line = numbered (codes "lines-text line ") line
refused_table Words line = numbered (codes "lines-text line ") line
refused_table Object line = table_object line

-- the text of a table is refused at this line
pub record IsTableRefused (story : Story) (table : List ℕ) (text : List ℕ) (status : ℕ) : Type 0 where
  pub line : ℕ
  pub is_line : IsRefusalLine SpellsTable table line
  pub is_text : text ≡ refused_table (story_lack story) line
  pub is_status : status ≡ 1

-- `explain` for the first of two texts, with the line numbers of the table that the second text spells; or the line at
-- which the second is refused
abbrev pub IsExplainedByTable : Story → Option Extent → List ℕ × List ℕ → List ℕ → ℕ → Type 0
IsExplainedByTable story complete texts text status =
    ((table : List ℕ) × IsSpelling SpellsTable table texts.1 × IsExplained (line_by table) story complete texts.0 text status)
    ⊎ IsTableRefused story texts.1 text status
