use Rattle.std.proofs.Common.{Option, subst}
use Rattle.walked_sessions.specs.Held.{IsKeptIn}
use Rattle.walked_sessions.specs.declared.kept.Kept.{Kept}
use Rattle.walked_sessions.proofs.Making.{session_fits}
use Rattle.walked_sessions.proofs.held.session_in.Goals as goal

pub returns-in-None : goal.returns-in-None
returns-in-None c = λ d h session.
    let never = subst (λ (k : Option Kept). IsKeptIn k d) c.in-None.is h in
    never c.args.version c.args.size (session_fits d c.args.version c.args.size session)
