use Rattle.std.proofs.Common.{take}
use Rattle.walked_sessions.specs.inner.Meeting.{MeetsAll}
use Rattle.walked_sessions.proofs.walking.walk_deliveries.Given as goal

abbrev pub invariant-loop-i : goal.invariant-loop-i
invariant-loop-i g l = MeetsAll g.V.Visitor.Met (λ m. g.K.CarrierRecord.wide (g.K.CarrierRecord.delivery m)) l.fn.visitor l.visitor (take l.i l.deliveries)
