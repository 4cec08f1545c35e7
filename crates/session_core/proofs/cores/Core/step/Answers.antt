use Rattle.session_core.specs.Cores.{machine}
use Rattle.session_core.proofs.Steps.{stays_reached}
use Rattle.session_core.proofs.cores.Core.step.Goals as goal

pub invariant_of-self : goal.invariant_of-self
invariant_of-self c =
    let old = machine c.self.inside.phase c.self.inside.order.items in
    let new = machine c.step_books.new.phase c.step_books.new.order.items in
    (c.step_books.ensures.held, stays_reached c.args.event old new c.step_books.result c.self.invariant.1 c.step_books.ensures.ok c.step_books.ensures.err)
