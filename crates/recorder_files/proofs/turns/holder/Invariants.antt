use Rattle.std.proofs.Common.{ℕ, ◌<◌, ◌≤◌}
use Rattle.recorder_files.specs.Gathered.{Has}
use Rattle.recorder_files.proofs.turns.holder.Given as goal

abbrev pub invariant-loop-i : goal.invariant-loop-i
invariant-loop-i l = (j : ℕ) → l.first ≤ j → j < l.i → Has l.heads j l.wanted → ⊥
