use Rattle.std.proofs.Common.{arith, sym}
use Rattle.session_grammar.proofs.Laws.{next_last}
use Rattle.session_grammar.proofs.pages.next_page.Goals as goal

pub returns-in-Some : goal.returns-in-Some
returns-in-Some c = let next = next_last c.args.before.now c.in-Some.page.now (sym c.in-Some.ensures.value) in omega (arith, c.number.ensures.value)
