use Rattle.std.proofs.Common.{subst}
use Rattle.text_lines.specs.Answer.{IsRead}
use Rattle.session_grammar.specs.Grammar.{SpellsSession}
use Rattle.session_commands.proofs.Answered.{read_cut}
use Rattle.session_commands.proofs.windowing.cut_read.Goals as goal

pub returns-in-Ok-clause-cut : goal.returns-in-Ok-clause-cut
returns-in-Ok-clause-cut c = λ text read. read_cut text c.in-Ok.session c.args.window c.cut_session.result (subst (λ found. IsRead SpellsSession text found) c.in-Ok.is read) c.cut_session.ensures.cut
