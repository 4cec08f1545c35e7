use Rattle.std.proofs.Common.{ℕ, List, Result, subst}
use Rattle.text_lines.specs.Answer.{IsRead}
use Rattle.windows.specs.Tables.{SpellsTable}
use Rattle.judge_commands.proofs.Explained.{by_table, table_refused}
use Rattle.judge_commands.proofs.explaining.explained_by.Goals as goal

pub returns-in-Ok : goal.returns-in-Ok
returns-in-Ok g c = λ first second session table. by_table c.args.story c.args.complete first second c.in-Ok.table c.explained.result (subst (λ (r : Result (List ℕ) ℕ). IsRead SpellsTable second r) c.in-Ok.is table) (c.explained.ensures first session)

pub returns-in-Err : goal.returns-in-Err
returns-in-Err g c = λ first second session table. table_refused c.args.story c.args.complete first second c.in-Err.line c.table_refused.result (subst (λ (r : Result (List ℕ) ℕ). IsRead SpellsTable second r) c.in-Err.is table) (rw c.of_lack.ensures at c.table_refused.ensures)
