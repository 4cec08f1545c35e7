use Rattle.std.proofs.Common.{arith}
use Rattle.session_story.proofs.Firsts.{some_faulty}
use Rattle.session_story.proofs.explaining.more_faulty.Goals as goal

pub overflow_sub-result : goal.overflow_sub-result
overflow_sub-result c =
    let many = c.requires.many in
    let some = some_faulty c.args.session.now c.keeps_limits.ensures c.args.fault.now.reason (c.args.fault.now.log, c.args.fault.now.place) many.0 c.requires.first.is_fault many.1 in
    omega (arith, some, many.2)

pub returns : goal.returns
returns c =
    let many = c.requires.many in
    let some = some_faulty c.args.session.now c.keeps_limits.ensures c.args.fault.now.reason (c.args.fault.now.log, c.args.fault.now.place) many.0 c.requires.first.is_fault many.1 in
    (many.0, many.1, omega (arith, some, many.2))
