use Rattle.std.proofs.Common.{List, length, ap, ◌∙◌}
use Rattle.migration_types.specs.declared.records.GuestRec.{GuestRec}
use Rattle.migration_types.specs.declared.records.SourceRec.{SourceRec}
use Rattle.migration_types.specs.declared.records.LaneRec.{LaneRec}
use Rattle.migration_types.specs.declared.records.PagerRec.{PagerRec}
use Rattle.audit_model.specs.Shape.{is_miss, is_want}
use Rattle.session_story.specs.Scans.{how_many}
use Rattle.session_story.specs.Counted.{is_send, is_again, is_join, is_skip}
use Rattle.session_story.proofs.counting.counts_of.Goals as goal

pub returns : goal.returns
returns c =
    let s = c.args.session.now in
    record {
      unmoved = c.count_of.ensures;
      fresh = c.count_of-2.ensures;
      sent = c.count_of-3.ensures;
      zeroed = c.count_of-4.ensures;
      misses = c.count_of-5.ensures ∙ ap (λ (log : List GuestRec). how_many (λ m. is_miss) log (length log)) c.guest.ensures;
      sends = c.count_of-6.ensures ∙ ap (λ (log : List SourceRec). how_many (λ m. is_send) log (length log)) c.source.ensures;
      pushes = c.in_ok-pushes.ensures;
      repeats = c.count_of-7.ensures ∙ ap (λ (log : List SourceRec). how_many (λ m. is_again) log (length log)) c.source-2.ensures;
      waits = c.count_of-8.ensures ∙ ap (λ (log : List PagerRec). how_many (λ m. is_join) log (length log)) c.pager.ensures;
      dropped = c.count_of-9.ensures ∙ ap (λ (log : List PagerRec). how_many (λ m. is_skip) log (length log)) c.pager-2.ensures;
      by_lane = ap (λ (log : List LaneRec). length log) c.lane.ensures;
      used = c.count_of-10.ensures;
      reads = c.count_of_reads.ensures;
      released = c.in_ok-released.ensures;
      left = c.in_ok-left.ensures;
      undelivered = c.in_ok-undelivered.ensures;
      requests = c.count_of-11.ensures ∙ ap (λ (log : List PagerRec). how_many (λ m. is_want) log (length log)) c.pager-3.ensures;
      unheard = c.in_ok-unheard.ensures;
    }
