use Rattle.commands.proofs.Lined.{window_lines}
use Rattle.commands.proofs.answering.perform.Goals as goal

pub returns-in-One-clause-told : goal.returns-in-One-clause-told
returns-in-One-clause-told g c = rw c.in-One.is (rw c.ask_of.ensures at c.perform_one.ensures.told)

pub returns-in-Two-clause-told : goal.returns-in-Two-clause-told
returns-in-Two-clause-told g c = rw c.in-Two.is c.asked_two.ensures.told

pub returns-in-Migrate-clause-told : goal.returns-in-Migrate-clause-told
returns-in-Migrate-clause-told g c = rw c.in-Migrate.is c.perform_migrate.ensures.told

pub returns-in-Draw-clause-told : goal.returns-in-Draw-clause-told
returns-in-Draw-clause-told g c = rw c.in-Draw.is c.asked_draw.ensures.told

pub returns-in-Window-clause-told : goal.returns-in-Window-clause-told
returns-in-Window-clause-told g c = rw c.in-Window.is c.asked_window.ensures.told

pub returns-in-Window-clause-lines : goal.returns-in-Window-clause-lines
returns-in-Window-clause-lines g c =
    rw c.in-Window.is (window_lines c.in-Window.pages c.in-Window.name.now c.in-Window.file _ _ _ _ _ _ _ c.asked_window.result (rw c.is_some.ensures at c.asked_window.ensures.lines) (rw c.is_some.ensures at c.asked_window.ensures.unlined))
