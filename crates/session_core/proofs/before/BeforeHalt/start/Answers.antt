use Rattle.std.proofs.Common.{◌∙◌, sym, ap, subst, List}
use Rattle.std.specs.List.{AllByRecursion}
use Rattle.target_side.specs.GuestPart.{GuestPart}
use Rattle.guest_script.specs.declared.vcpus.Vcpu.{Vcpu as Scheduled}
use Rattle.std.specs.Prelude.{map}
use Rattle.session_core.specs.States.{vcpu_of, LeftFits}
use Rattle.session_core.proofs.Operations.{all_left_fits, init_is}
use Rattle.session_core.proofs.before.BeforeHalt.start.Goals as goal

pub new-requires : goal.new-requires
new-requires c = rw (c.geometry.ensures, c.init.ensures) (init_is _ _ c.keeps_limits.ensures.init.each)

pub invariant_of-result : goal.invariant_of-result
invariant_of-result c =
    record {
      guest = ap (λ (b : GuestPart). b.geometry) c.in_ok-guest.ensures ∙ c.geometry.ensures;
      vcpus =
          let all = c.in_ok-vcpus.ensures ∙ ap (λ (vcpus : List Scheduled). map vcpu_of vcpus) c.vcpus.ensures in
          subst (AllByRecursion (LeftFits c.args.script.now.version c.args.script.now.geometry)) (sym all) (all_left_fits _ _ _ c.keeps_limits.ensures.vcpus);
    }
