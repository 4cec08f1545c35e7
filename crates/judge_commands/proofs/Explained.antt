-- What is explained by a table, by what was read of it.
use Rattle.std.proofs.Common.{ℕ, inl, inr, List, Option, IfOk, Result, Ok, Err}
use Rattle.std.specs.declared.alloc.AllocError.{AllocError}
use Rattle.text_lines.specs.Text.{IsSpelling, IsRefusalLine}
use Rattle.completeness.specs.declared.lack.Extent.{Extent}
use Rattle.audit_report.specs.ToldLines.{line_by}
use Rattle.command_texts.specs.declared.answer.Answer.{Answer}
use Rattle.command_texts.specs.Answers.{Says}
use Rattle.windows.specs.Tables.{SpellsTable}
use Rattle.session_answers.specs.declared.forms.Story.{Story}
use Rattle.session_answers.specs.Lacks.{story_lack}
use Rattle.judge_commands.specs.ByTables.{IsExplainedByTable, refused_table}
use Rattle.judge_commands.specs.Completed.{IsExplained}

module _ (story : Story) (complete : Option Extent) (first second : List ℕ) where
  pub by_table : (table : List ℕ) (found : Result Answer AllocError) → IsSpelling SpellsTable table second → IfOk found (λ a. IsExplained (line_by table) story complete first a.text.items a.status) → IfOk found (λ a. IsExplainedByTable story complete (first, second) a.text.items a.status)
  by_table table (Ok a) spelled told = inl (table, spelled, told)
  by_table table (Err e) spelled told = tt

  pub table_refused : (line : ℕ) (found : Result Answer AllocError) → IsRefusalLine SpellsTable second line → IfOk found (λ a. Says a (refused_table (story_lack story) line) 1) → IfOk found (λ a. IsExplainedByTable story complete (first, second) a.text.items a.status)
  table_refused line (Ok a) refused says = inr (record { line = line; is_line = refused; is_text = says.0; is_status = says.1 })
  table_refused line (Err e) refused says = tt
