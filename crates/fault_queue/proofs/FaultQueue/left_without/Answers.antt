use Rattle.std.proofs.Common.{◌≤◌, length, ap, ◌∙◌, arith}
use Rattle.std.proofs.lemmas.List.{take_all}
use Rattle.fault_queue.specs.Waiting.{without, without_all}
use Rattle.fault_queue.proofs.Waiters.{without_more}
use Rattle.fault_queue.proofs.FaultQueue.left_without.Goals as goal

pub loop-page-preserved : goal.loop-page-preserved
loop-page-preserved c =
    c.served.ensures.others ∙ ap (without c.page-item.result) c.loop-page.invariant ∙ without_more c.args.pages.now c.args.self.now c.loop-page.page-index c.page-item.result c.loop-page-test.true c.page-item.is

pub returns : goal.returns
returns c =
    let past : length c.args.pages.now ≤ c.loop-page.page-index = omega arith in
    c.loop-page.invariant ∙ ap (λ xs. without_all xs c.args.self.now) (take_all c.loop-page.page-index c.args.pages.now past)
