use Rattle.std.proofs.Common.{◌+◌, List, sym, subst}
use Rattle.page_facts.specs.declared.faulty.FaultyPage.{FaultyPage}
use Rattle.page_facts.specs.FaultyPages.{AreFaultyFrom}
use Rattle.page_facts.proofs.MorePages.{more_clean, more_faulty}
use Rattle.page_facts.proofs.faulty.FaultsQuestion.take.Goals as goal

pub returns-in_ok-push-in-Some : goal.returns-in_ok-push-in-Some
returns-in_ok-push-in-Some c = λ first count here old.
    let s = c.args.session.now in
    subst (λ (found : List FaultyPage). AreFaultyFrom s first (count + 1) found) (sym c.in_ok-push-in-Some.ensures.items)
    (more_faulty s first count c.args.page c.args.faulty.now.items c.with_line.result here old c.with_line.ensures.page c.with_line.ensures.first)

pub returns-in-None : goal.returns-in-None
returns-in-None c = λ first count here old. more_clean c.args.session.now first count c.args.page c.args.faulty.now.items here old c.in-None.ensures
