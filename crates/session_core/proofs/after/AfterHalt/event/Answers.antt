use Rattle.std.proofs.Common.{rules, refl}
use Rattle.session_core.proofs.Parts.{made, full, lane_told, full_within}
use Rattle.session_core.proofs.after.AfterHalt.event.Goals as goal

pub returns-in_err-_came-in-Push-clause-full : goal.returns-in_err-_came-in-Push-clause-full
returns-in_err-_came-in-Push-clause-full c =
    let lane = lane_told _ _ _ c.lane.ensures c.is_some-has_lane.ensures in
    rw c.in-Push.is (λ f. full _ _ _ _ (full_within _ _ _ _ _ _ c.window-window.ensures lane (c.in_err-_came-in-Push.ensures.comes.full (search rules))) c.self.view_is refl)

pub returns-in_err-_came-in-Serve-clause-full : goal.returns-in_err-_came-in-Serve-clause-full
returns-in_err-_came-in-Serve-clause-full c =
    rw c.in-Serve.is (λ f. full _ _ _ _ (c.in_err-_came-in-Serve.ensures.comes.full (search rules)) c.self-in-Serve.view_is refl)

pub returns-in_err-_came-in-PagerPop-clause-full : goal.returns-in_err-_came-in-PagerPop-clause-full
returns-in_err-_came-in-PagerPop-clause-full c =
    rw c.in-PagerPop.is (λ f. full _ _ _ _ (c.in_err-_came-in-PagerPop.ensures.comes.full (search rules)) c.self-in-PagerPop.view_is refl)

pub returns-in_err-_came-in-PagerPull-clause-full : goal.returns-in_err-_came-in-PagerPull-clause-full
returns-in_err-_came-in-PagerPull-clause-full c =
    rw c.in-PagerPull.is (λ f. full _ _ _ _ (c.in_err-_came-in-PagerPull.ensures.comes.full (search rules)) c.self-in-PagerPull.view_is refl)

pub returns-in_ok-_came-in-SourceTick-clause-ok : goal.returns-in_ok-_came-in-SourceTick-clause-ok
returns-in_ok-_came-in-SourceTick-clause-ok c =
    rw c.in-SourceTick.is (made _ _ _ _ _ c.in_ok-_came-in-SourceTick.ensures.comes.ok c.self-in-SourceTick.view_is refl)

pub returns-in_ok-_came-in-PagerFault-clause-ok : goal.returns-in_ok-_came-in-PagerFault-clause-ok
returns-in_ok-_came-in-PagerFault-clause-ok c =
    rw c.in-PagerFault.is (made _ _ _ _ _ c.in_ok-_came-in-PagerFault.ensures.comes.ok c.self-in-PagerFault.view_is refl)

pub returns-in_ok-_came-in-PagerFlush-clause-ok : goal.returns-in_ok-_came-in-PagerFlush-clause-ok
returns-in_ok-_came-in-PagerFlush-clause-ok c =
    rw c.in-PagerFlush.is (made _ _ _ _ _ c.in_ok-_came-in-PagerFlush.ensures.comes.ok c.self-in-PagerFlush.view_is refl)

pub returns-in_ok-_came-in-PagerDeliver-clause-ok : goal.returns-in_ok-_came-in-PagerDeliver-clause-ok
returns-in_ok-_came-in-PagerDeliver-clause-ok c =
    rw c.in-PagerDeliver.is (made _ _ _ _ _ c.in_ok-_came-in-PagerDeliver.ensures.comes.ok c.self-in-PagerDeliver.view_is refl)

pub returns-in_ok-_came-in-PagerTick-clause-ok : goal.returns-in_ok-_came-in-PagerTick-clause-ok
returns-in_ok-_came-in-PagerTick-clause-ok c =
    rw c.in-PagerTick.is (made _ _ _ _ _ c.in_ok-_came-in-PagerTick.ensures.comes.ok c.self-in-PagerTick.view_is refl)
