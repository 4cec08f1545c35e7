use Rattle.std.proofs.Common.{ap, ◌∙◌, ◌++◌, ◌∷◌, []}
use Rattle.windows.proofs.Lineage.{lines_are}
use Rattle.windows.proofs.origins.line_origins.Goals as goal

pub returns : goal.returns
returns c = λ number s v i r. lines_are number s c.args.version c.args.init.now c.args.known.now v i r
    c.in_ok-guest.guest
    c.in_ok-source.source
    c.in_ok-link.link
    c.in_ok-lane.lane
    c.in_ok-pager.pager
    c.in_ok-end.end
    c.extend_from_slice.new.self.items
    c.push_origins.new.lines.items
    c.push_origins-2.new.lines.items
    c.push_origins-3.new.lines.items
    c.push_origins-4.new.lines.items
    c.push_lane.new.lines.items
    c.push_origins-5.new.lines.items
    c.push.new.self.items
    (record {
      guest_is = c.in_ok-guest.ensures.next;
      source_is = c.in_ok-source.ensures.next;
      link_is = c.in_ok-link.ensures.next;
      lane_is = c.in_ok-lane.ensures.next;
      pager_is = c.in_ok-pager.ensures.next;
      end_is = c.in_ok-end.ensures.next;
      l0_is = c.in_ok-extend_from_slice.ensures.items ∙ ap (λ xs. xs ++ 1 ∷ 2 ∷ 3 ∷ []) c.new-lines.ensures.items;
      l1_is = c.in_ok-guest.ensures.lines;
      l2_is = c.in_ok-source.ensures.lines;
      l3_is = c.in_ok-link.ensures.lines;
      l4_is = c.in_ok-lane.ensures.lines;
      l5_is = c.in_ok-pager.ensures.lines;
      l6_is = c.in_ok-end.ensures.lines;
      all_is = c.in_ok-push.ensures.items;
    })
