use Rattle.command_texts.specs.Reasons.{line_of}
use Rattle.text_access.specs.Names.{files_of}
use Rattle.command_texts.proofs.Names.{named_file}
use Rattle.command_texts.proofs.naming.read_opened.Goals as goal

pub returns-in-Ok-clause-named : goal.returns-in-Ok-clause-named
returns-in-Ok-clause-named g c = λ input plain. named_file c.read_from.result (λ text read. g.T.Taker.is_found text read.0) (λ text read. g.T.Taker.is_refused text (line_of read.1)) c.args.name.now (files_of (g.S.TextSource.bytes_of c.args.texts.now) (g.S.TextSource.names_in c.args.texts.now)) (g.T.Taker.taken_in (g.S.TextSource.text_in c.args.texts.now)) input _ plain c.in-Ok.ensures c.read_from.ensures.read
