use Rattle.std.proofs.Common.{arith}
use Rattle.page_facts.proofs.MorePages.{many_joined}
use Rattle.page_facts.proofs.faulty.HowManyQuestion.add.Goals as goal

pub returns : goal.returns
returns c = λ s first count more low high. many_joined s first count more c.args.many.now c.args.next c.saturating_add.result low high (λ few less others. omega (arith, c.saturating_add.ensures, few, less, others))
