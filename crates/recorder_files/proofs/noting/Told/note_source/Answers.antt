use Rattle.std.proofs.Common.{◌≡◌, ◌+◌, rules}
use Rattle.recorder_files.specs.Told.{request}
use Rattle.recorder_files.proofs.Noted.{kept, counted}
use Rattle.recorder_files.proofs.noting.Told.note_source.Goals as goal

pub returns : goal.returns
returns c = λ pager source h.
    let next : c.in_ok-next.next ≡ c.args.self.now.source + 1 = search rules in
    record {
      packets = h.packets;
      pulls = h.pulls;
      requests = kept request c.args.self.now.source source c.args.rec.now c.args.self.now.requests.items c.keep.new.messages.items c.request.result h.source_count h.requests c.request.ensures c.in_ok-keep.ensures;
      pager_count = h.pager_count;
      source_count = counted c.args.self.now.source c.in_ok-next.next source c.args.rec.now h.source_count next;
    }
