use Rattle.std.proofs.Common.{ap, ◌∙◌}
use Rattle.walked_sessions.proofs.Meeting.{delivery_more}
use Rattle.walked_sessions.proofs.walking.walk_deliveries.Goals as goal

pub loop-i-preserved : goal.loop-i-preserved
loop-i-preserved g c = delivery_more g.V.Visitor.Met (λ m. g.K.CarrierRecord.wide (g.K.CarrierRecord.delivery m)) c.args.visitor.now c.loop-i.visitor c.record.new.self c.args.deliveries.now c.loop-i.i _ c.wide.result c.loop-i-test.true (c.wide.ensures ∙ ap g.K.CarrierRecord.wide c.delivery.ensures) c.in_ok-record.ensures c.loop-i.invariant
