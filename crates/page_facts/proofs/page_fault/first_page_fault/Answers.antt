use Rattle.std.proofs.lemmas.Result.{IfOk-weaker}
use Rattle.page_facts.proofs.OverPages.{all_is, has_page}
use Rattle.page_facts.proofs.page_fault.first_page_fault.Goals as goal

pub returns-clause-first : goal.returns-clause-first
returns-clause-first c = IfOk-weaker c.answer_alone.result _ _ (λ fault first. all_is c.args.session.now c.keeps_limits.ensures fault first) c.answer_alone.ensures

pub returns-clause-page : goal.returns-clause-page
returns-clause-page c = IfOk-weaker c.answer_alone.result _ _ (λ fault first. has_page c.args.session.now fault first) c.answer_alone.ensures
