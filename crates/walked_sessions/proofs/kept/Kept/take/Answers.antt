use Rattle.std.proofs.Common.{subst, sym}
use Rattle.std.specs.Prelude.{MatchBool}
use Rattle.recordings.specs.Seen.{with_record}
use Rattle.recordings.specs.Wide.{guest_of, source_of, link_of, lane_of, pager_of}
use Rattle.recordings.specs.declared.wide.Wide.{Wide}
use Rattle.walked_sessions.specs.Fitting.{Fits}
use Rattle.walked_sessions.specs.Kept.{IsKept}
use Rattle.walked_sessions.specs.Needs.{IsNever}
use Rattle.walked_sessions.proofs.Recorded.{on_ok, took_guest, took_source, took_link, took_lane, took_pager}
use Rattle.walked_sessions.proofs.kept.Kept.take.Goals as goal

pub returns-in-Guest : goal.returns-in-Guest
returns-in-Guest c = on_ok c.take.result c.take.ensures (λ taken log d is. subst (λ (w : Wide). MatchBool taken (IsKept (record { machine = c.args.self.now.machine; init = c.args.self.now.init; guest = c.take.new.self; source = c.args.self.now.source; link = c.args.self.now.link; lane = c.args.self.now.lane; pager = c.args.self.now.pager }) (with_record d w)) (IsNever (Fits (with_record d w)))) (sym c.in-Guest.is) (took_guest c.args.self.now c.take.new.self d (guest_of c.in-Guest.rec) taken is (log d.guest is.guest)))

pub returns-in-Source : goal.returns-in-Source
returns-in-Source c = on_ok c.take-in-Source.result c.take-in-Source.ensures (λ taken log d is. subst (λ (w : Wide). MatchBool taken (IsKept (record { machine = c.args.self.now.machine; init = c.args.self.now.init; guest = c.args.self.now.guest; source = c.take-in-Source.new.self; link = c.args.self.now.link; lane = c.args.self.now.lane; pager = c.args.self.now.pager }) (with_record d w)) (IsNever (Fits (with_record d w)))) (sym c.in-Source.is) (took_source c.args.self.now c.take-in-Source.new.self d (source_of c.in-Source.rec) taken is (log d.source is.source)))

pub returns-in-Link : goal.returns-in-Link
returns-in-Link c = on_ok c.take-in-Link.result c.take-in-Link.ensures (λ taken log d is. subst (λ (w : Wide). MatchBool taken (IsKept (record { machine = c.args.self.now.machine; init = c.args.self.now.init; guest = c.args.self.now.guest; source = c.args.self.now.source; link = c.take-in-Link.new.self; lane = c.args.self.now.lane; pager = c.args.self.now.pager }) (with_record d w)) (IsNever (Fits (with_record d w)))) (sym c.in-Link.is) (took_link c.args.self.now c.take-in-Link.new.self d (link_of c.in-Link.rec) taken is (log d.link is.link)))

pub returns-in-Lane : goal.returns-in-Lane
returns-in-Lane c = on_ok c.take-in-Lane.result c.take-in-Lane.ensures (λ taken log d is. subst (λ (w : Wide). MatchBool taken (IsKept (record { machine = c.args.self.now.machine; init = c.args.self.now.init; guest = c.args.self.now.guest; source = c.args.self.now.source; link = c.args.self.now.link; lane = c.take-in-Lane.new.self; pager = c.args.self.now.pager }) (with_record d w)) (IsNever (Fits (with_record d w)))) (sym c.in-Lane.is) (took_lane c.args.self.now c.take-in-Lane.new.self d (lane_of c.in-Lane.rec) taken is (log d.lane is.lane)))

pub returns-in-Pager : goal.returns-in-Pager
returns-in-Pager c = on_ok c.take-in-Pager.result c.take-in-Pager.ensures (λ taken log d is. subst (λ (w : Wide). MatchBool taken (IsKept (record { machine = c.args.self.now.machine; init = c.args.self.now.init; guest = c.args.self.now.guest; source = c.args.self.now.source; link = c.args.self.now.link; lane = c.args.self.now.lane; pager = c.take-in-Pager.new.self }) (with_record d w)) (IsNever (Fits (with_record d w)))) (sym c.in-Pager.is) (took_pager c.args.self.now c.take-in-Pager.new.self d (pager_of c.in-Pager.rec) taken is (log d.pager is.pager)))
