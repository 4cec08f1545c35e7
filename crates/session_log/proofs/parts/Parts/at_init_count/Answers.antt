use Rattle.std.proofs.Common.{ap}
use Rattle.std.proofs.lemmas.Result.{err_from_is_err_and}
use Rattle.session_log.specs.inner.Steps.{draft_of}
use Rattle.session_grammar.specs.inner.InitPages.{next_from}
use Rattle.session_log.proofs.Laws.{init_count_refused}
use Rattle.session_log.proofs.parts.Parts.at_init_count.Goals as goal

pub returns-in_err-announce : goal.returns-in_err-announce
returns-in_err-announce c = let p = err_from_is_err_and c.from_residual.result c.from_residual.ensures.1 in rw (p.1, p.2) (ap (λ (x : _). record (draft_of c.args.self.now) { init = x; next_page = next_from 0 x.items }) c.in_err-announce.ensures.err, λ _ b. init_count_refused (draft_of c.args.self.now) c.args.line.now c.requires.1 c.in_err-announce.ensures.refused b)
