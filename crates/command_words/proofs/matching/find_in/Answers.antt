use Rattle.std.proofs.lemmas.Result.{err_from_is_err_and}
use Rattle.command_words.specs.Words.{word_texts}
use Rattle.command_words.proofs.Clashes.{kind_of_line}
use Rattle.command_words.proofs.matching.find_in.Goals as goal

pub returns-in_err-matches-clause-kinds : goal.returns-in_err-matches-clause-kinds
returns-in_err-matches-clause-kinds c =
    let p = err_from_is_err_and c.from_residual.result c.from_residual.ensures.1 in
    rw (p.1, p.2) (kind_of_line (word_texts c.args.words.now) c.in_err-matches.field-0.0 c.in_err-matches.ensures.kinds)
