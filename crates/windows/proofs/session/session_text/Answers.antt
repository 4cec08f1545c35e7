use Rattle.std.proofs.Common.{[], ◌∷◌, ◌++◌, map, ap, ◌∙◌}
use Rattle.std.specs.Fmt.{decimal}
use Rattle.text_lines.specs.Text.{ended}
use Rattle.session_grammar.specs.Grammar.{header, pages_key, cells_key, page_line}
use Rattle.session_grammar.specs.Records.{guest_line, source_line, link_line, lane_line, pager_line}
use Rattle.windows.specs.inner.Parts.{lane_lines}
use Rattle.windows.proofs.Text.{whole}
use Rattle.windows.proofs.session.session_text.Goals as goal

pub returns : goal.returns
returns c = λ s sections version extent. whole s
    c.push_line.new.out.items
    c.push_keyed.new.out.items
    c.push_keyed-2.new.out.items
    c.push_section.new.out.items
    c.push_section-2.new.out.items
    c.push_section-3.new.out.items
    c.push_section-4.new.out.items
    c.push_lane.new.out.items
    c.push_section-5.new.out.items
    c.push_line-2.new.out.items
    (record {
      head_is = c.in_ok-push_line.ensures ∙ ap (λ xs. xs ++ (c.session_header.result.now ++ 10 ∷ [])) c.new-out.ensures.items ∙ ap (λ xs. xs ++ 10 ∷ []) (c.session_header.ensures ∙ (ap (λ v. header v c.args.machine.now.size) version ∙ ap (λ e. header s.version e.size) extent));
      pages_is = c.in_ok-push_keyed.ensures ∙ ap (λ n. c.push_line.new.out.items ++ (pages_key ++ (decimal n ++ 10 ∷ []))) (ap (λ e. e.pages) extent);
      cells_is = c.in_ok-push_keyed-2.ensures ∙ ap (λ n. c.push_keyed.new.out.items ++ (cells_key ++ (decimal n ++ 10 ∷ []))) (ap (λ e. e.cells) extent);
      init_is = c.in_ok-push_section.ensures (map page_line s.init) sections.init;
      guest_is = c.in_ok-push_section-2.ensures (map guest_line s.guest) sections.guest;
      source_is = c.in_ok-push_section-3.ensures (map source_line s.source) sections.source;
      link_is = c.in_ok-push_section-4.ensures (map link_line s.link) sections.link;
      lane_is = c.in_ok-push_lane.ensures (map lane_line s.lane) sections.lane ∙ ap (λ v. c.push_section-4.new.out.items ++ ended (lane_lines v (map lane_line s.lane))) version;
      pager_is = c.in_ok-push_section-5.ensures (map pager_line s.pager) sections.pager;
      all_is = c.in_ok-push_line-2.ensures;
    })
