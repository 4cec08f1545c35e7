use Rattle.std.proofs.Common.{◌≡◌, ◌+◌, drop}
use Rattle.audit_model.specs.Flat.{halt_place}
use Rattle.page_facts.proofs.machine.halt_place.Given as goal

abbrev pub invariant-loop-n : goal.invariant-loop-n
invariant-loop-n l = halt_place l.guest ≡ l.n + halt_place (drop l.n l.guest)
