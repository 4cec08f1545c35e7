use Rattle.std.proofs.Common.{rules, ◌≡◌, refl, subst}
use Rattle.host_checks.specs.inner.Limits.{AreOfMachine}
use Rattle.host_checks.proofs.Fitting.{is_session}
use Rattle.host_checks.proofs.limits.session_of.Goals as goal

-- src/limits.rt:66:8
pub new-requires : goal.new-requires
new-requires c =
    let s = c.args.script.now in
    let machine : AreOfMachine s.version s.geometry c.args.logs =
    subst (λ e. AreOfMachine s.version e c.args.logs) c.geometry-geometry.ensures
    (subst (λ v. AreOfMachine v c.geometry-geometry.result c.args.logs) c.version.ensures (c.if-not-are_of_machine.ensures refl)) in
    rw (c.version-2.ensures, c.geometry-geometry.ensures, c.in-Ok.ensures) (is_session s c.args.logs c.keeps_limits.ensures (c.if-not-are_short.ensures.0 refl) machine)
