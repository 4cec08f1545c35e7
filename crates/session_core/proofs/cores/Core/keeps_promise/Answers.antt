use Rattle.migration_model.specs.Promise.{IsReached}
use Rattle.session_core.specs.Cores.{Cored, machine_of}
use Rattle.session_core.proofs.Promised.{reached_promised}
use Rattle.session_core.proofs.cores.Core.keeps_promise.Goals as goal
use Rattle.std.proofs.Common.{subst}

pub returns-clause-promised : goal.returns-clause-promised
returns-clause-promised c =
    let reached = subst (λ (core : Cored). IsReached (machine_of core)) c.self.view_is c.self.invariant.1 in
    reached_promised (machine_of c.args.self.now) reached
