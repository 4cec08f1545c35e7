use Rattle.page_stream.proofs.Passing.{all_short, leaves, takes_few, stops_memory, stops_stream}
use Rattle.page_stream.proofs.pumping.pass_on.Goals as goal
use Rattle.page_stream.proofs.pumping.pass_on.Goals.{in-Memory, in_default}

pub write_packets-requires : goal.write_packets-requires
write_packets-requires g c =
    rw c.as_slice-packets.ensures (all_short c.args.stream.now.geometry c.in-Ok.packets c.requires.extent c.in-Ok.ensures.taken.stands.each)

pub write_packets-requires-in-Err : goal.write_packets-requires-in-Err
write_packets-requires-in-Err g c =
    let left = leaves c.args.stream.now c.feed.new.self c.args.piece.now c.in-Err.fault.before c.in-Err.fault.kind c.requires.going c.in-Err.ensures.refused in
    rw c.as_slice.ensures (all_short c.args.stream.now.geometry c.in-Err.fault.before c.requires.extent left.stands.each)

pub returns-in_ok-write_packets-in-Ok-clause-few : goal.returns-in_ok-write_packets-in-Ok-clause-few
returns-in_ok-write_packets-in-Ok-clause-few g c =
    rw c.as_slice-packets.ensures (takes_few c.args.stream.now c.feed.new.self c.args.piece.now c.in-Ok.packets c.in-Ok.ensures.taken)

pub returns-after-fault-clause-err : goal.returns-after-fault-clause-err
returns-after-fault-clause-err g c =
    let left = leaves c.args.stream.now c.feed.new.self c.args.piece.now c.in-Err.fault.before c.in-Err.fault.kind c.requires.going c.in-Err.ensures.refused in
    let written = rw c.as_slice.ensures at c.in_ok-write_packets-in-Err.ensures.ok in
    elim c.match-fault.branch [
      | in-Memory w ↦ rw w.result-is (stops_memory c.args.stream.now.geometry _ _ c.in-Err.fault.before c.in-Err.fault.kind left written)
      | in_default w ↦ rw w.result-is (stops_stream c.args.stream.now.geometry _ _ c.in-Err.fault.before c.in-Err.fault.kind w.in_default.not-Memory left written)
    ]
