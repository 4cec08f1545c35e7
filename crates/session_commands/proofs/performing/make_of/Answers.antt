use Rattle.std.proofs.lemmas.Result.{IfOk-weaker}
use Rattle.session_commands.proofs.performing.make_of.Goals as goal

pub returns-clause-written : goal.returns-clause-written
returns-clause-written g c = IfOk-weaker c.settle-status.result _ _ (λ status writes zero. let w = writes zero in (w.0, record { logs = c.in_ok-logs.logs; found = c.in_ok-logs.ensures c.requires.found; whole = c.requires.asked; is = w.1 }, w.2)) c.settle-status.ensures.written
