use Rattle.std.proofs.Common.{refl}
use Rattle.session_core.proofs.Parts.{full, lane_told, full_within, if_err}
use Rattle.session_core.proofs.after.AfterHalt.look.Goals as goal

pub returns-in-Push-clause-full : goal.returns-in-Push-clause-full
returns-in-Push-clause-full c =
    let lane = lane_told _ _ _ c.lane.ensures c.is_some-has_lane.ensures in
    rw c.in-Push.is (if_err c.look_to_push.result (λ part. full _ _ _ _ (full_within _ _ _ _ _ _ c.window-window.ensures lane part) c.self.view_is refl) c.look_to_push.ensures.full)

pub returns-in-Serve-clause-full : goal.returns-in-Serve-clause-full
returns-in-Serve-clause-full c = rw c.in-Serve.is (if_err c.look_to_serve.result (λ part. full _ _ _ _ part c.self.view_is refl) c.look_to_serve.ensures.full)

pub returns-in-PagerPop-clause-full : goal.returns-in-PagerPop-clause-full
returns-in-PagerPop-clause-full c = rw c.in-PagerPop.is (if_err c.look_to_pop.result (λ part. full _ _ _ _ part c.self.view_is refl) c.look_to_pop.ensures.full)

pub returns-in-PagerPull-clause-full : goal.returns-in-PagerPull-clause-full
returns-in-PagerPull-clause-full c = rw c.in-PagerPull.is (if_err c.look_to_pull.result (λ part. full _ _ _ _ part c.self.view_is refl) c.look_to_pull.ensures.full)
