use Rattle.std.proofs.Common.{◌≡◌, ◌+◌, rules}
use Rattle.recorder_files.specs.Told.{lane_packet, link_packet}
use Rattle.recorder_files.proofs.Noted.{kept, counted}
use Rattle.recorder_files.proofs.noting.Told.note_pager.Goals as goal

pub returns : goal.returns
returns c = λ pager source h.
    let next : c.in_ok-next.next ≡ c.args.self.now.pager + 1 = search rules in
    record {
      packets = kept link_packet c.args.self.now.pager pager c.args.rec.now c.args.self.now.packets.items c.keep.new.messages.items c.link_packet.result h.pager_count h.packets c.link_packet.ensures c.in_ok-keep.ensures;
      pulls = kept lane_packet c.args.self.now.pager pager c.args.rec.now c.args.self.now.pulls.items c.keep-2.new.messages.items c.lane_packet.result h.pager_count h.pulls c.lane_packet.ensures c.in_ok-keep-2.ensures;
      requests = h.requests;
      pager_count = counted c.args.self.now.pager c.in_ok-next.next pager c.args.rec.now h.pager_count next;
      source_count = h.source_count;
    }
