use Rattle.std.proofs.Common.{ℕ, List, subst}
use Rattle.recorder_files.specs.inner.Finding.{Finds}
use Rattle.recorder_files.proofs.TakenLines.{from_front}
use Rattle.recorder_files.proofs.pieces.find_reading.Goals as goal

pub returns-in-Some-clause-found : goal.returns-in-Some-clause-found
returns-in-Some-clause-found g c =
    let rest = g.R.Read.remaining c.read_behind.new.reader in
    let buffer = c.read_behind.new.buffer in
    subst (λ (b : List ℕ). Finds rest b c.in-Some.found) (from_front buffer c.in_ok-filled.filled) (c.in-Some.ensures rest)
