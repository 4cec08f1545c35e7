use Rattle.page_stream.proofs.Fronts.{stands_suffix}
use Rattle.page_stream.proofs.stream.take_packets.Goals as goal

pub returns-in-Fault-clause-end : goal.returns-in-Fault-clause-end
returns-in-Fault-clause-end c =
    rw (stands_suffix c.args.geometry c.args.bytes.now c.loop-packets.packets.items c.loop-packets.rest.now c.loop-packets.invariant) (rw c.in-Fault.is at c.in_ok-packet.ensures)
