use Rattle.std.proofs.Common.{arith}
use Rattle.page_facts.proofs.MorePages.{many_clean, many_faulty}
use Rattle.page_facts.proofs.faulty.HowManyQuestion.take.Goals as goal

pub returns-in-Some : goal.returns-in-Some
returns-in-Some c = λ first count here old. many_faulty c.args.session.now first count c.args.page c.args.many.now c.in-Some.field-0 c.saturating_add.result here old c.in-Some.ensures (λ few less. omega (arith, c.saturating_add.ensures, few, less))

pub returns-in-None : goal.returns-in-None
returns-in-None c = λ first count here old. many_clean c.args.session.now first count c.args.page c.args.many.now here old c.in-None.ensures
