use Rattle.std.proofs.Common.{◌≡◌, ◌+◌, drop}
use Rattle.audit_model.specs.Flat.{halt_place}
use Rattle.plain_audit.proofs.flat.halt_place.Given as goal

abbrev pub invariant-loop-place : goal.invariant-loop-place
invariant-loop-place l = halt_place l.guest ≡ l.place + halt_place (drop l.place l.guest)
