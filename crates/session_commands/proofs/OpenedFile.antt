-- A file that was opened.
use Rattle.std.proofs.Common.{◌≡◌, ℕ, List, [], Option, Some, None, subst}
use Rattle.std.specs.Prelude.{IfSome}
use Rattle.recorder_files.specs.declared.lines.Party.{Party}
use Rattle.recorder_files.specs.Said.{CameTo, Standing}

-- what came of a file whose bytes are these, if they are known
pub came_known : (party : Party) (known read : Option (List ℕ)) (s : Standing) → IfSome known (λ xs. read ≡ Some xs) → CameTo party read s [] → CameTo party known s []
came_known party None read s same c = record { head = c.head; rise = c.rise; line = c.line; open_end = c.open_end; written = c.written; consumed = tt }
came_known party (Some xs) read s same c = subst (λ (k : Option (List ℕ)). CameTo party k s []) same c
