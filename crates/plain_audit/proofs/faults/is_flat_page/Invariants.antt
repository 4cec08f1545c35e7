use Rattle.std.proofs.Common.{◌≡◌, ◌<◌, ℕ, get_or}
use Rattle.audit_model.specs.Flat.{flat}
use Rattle.plain_audit.proofs.faults.is_flat_page.Given as goal

abbrev pub invariant-loop-cell : goal.invariant-loop-cell
invariant-loop-cell l = (k : ℕ) → k < l.cell → get_or l.contents k 0 ≡ flat l.session l.place l.page k
