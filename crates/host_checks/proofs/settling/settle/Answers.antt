use Rattle.std.proofs.Common.{List, subst}
use Rattle.guest_script.specs.declared.transcript.Answered.{Answered}
use Rattle.host_checks.specs.Outcomes.{IsRefused}
use Rattle.host_checks.proofs.settling.settle.Goals as goal

pub returns-in-Err-clause-refused : goal.returns-in-Err-clause-refused
returns-in-Err-clause-refused g c =
    subst (λ (ts : List (List Answered)). IsRefused c.args.script.now.vcpus c.args.session ts c.args.store c.in-Err.fault) c.as_slice.ensures c.in-Err.ensures.refused
