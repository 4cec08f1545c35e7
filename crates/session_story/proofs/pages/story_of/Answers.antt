use Rattle.std.proofs.Common.{List, length, refl, ap, ◌∙◌}
use Rattle.migration_types.specs.declared.records.LinkRec.{LinkRec}
use Rattle.migration_types.specs.declared.records.LaneRec.{LaneRec}
use Rattle.migration_types.specs.declared.records.PagerRec.{PagerRec}
use Rattle.audit_model.specs.Shape.{is_send_of, delivers}
use Rattle.page_facts.specs.Tables.{first_before}
use Rattle.session_story.specs.Pages.{carries, lane_carries}
use Rattle.session_story.proofs.pages.story_of.Goals as goal

pub returns : goal.returns
returns c =
    let s = c.args.session.now in
    let page = c.args.page in
    record {
      page_is = refl;
      changed = c.last_change-changed.ensures;
      sent = c.send_of-sent.ensures;
      delivered = c.first_of-delivered.ensures ∙ ap (λ (log : List LinkRec). first_before (λ m. carries s page) log (length log)) c.link.ensures;
      by_lane = c.first_of-by_lane.ensures ∙ ap (λ (log : List LaneRec). first_before (λ m. lane_carries s page) log (length log)) c.lane.ensures;
      got = c.first_of-got.ensures ∙ ap (λ (log : List PagerRec). first_before (λ m r. delivers s (is_send_of page) m) log (length log)) c.pager.ensures;
      found = c.in_ok-found.ensures;
    }
