use Rattle.std.proofs.Common.{◌≡◌, true, false}
use Rattle.command_texts.specs.Reasons.{line_of}
use Rattle.command_texts.specs.Told.{is_dash}
use Rattle.command_texts.proofs.Names.{named_input}
use Rattle.text_access.specs.Names.{files_of}
use Rattle.command_texts.proofs.naming.read_under.Goals as goal

pub returns-then-eq-clause-named : goal.returns-then-eq-clause-named
returns-then-eq-clause-named g c =
    let dash : is_dash c.args.name.now ≡ true = cc in
    named_input c.read_from.result (λ text read. g.T.Taker.is_found text read.0) (λ text read. g.T.Taker.is_refused text (line_of read.1)) c.args.name.now (files_of (g.S.TextSource.bytes_of c.args.texts.now) (g.S.TextSource.names_in c.args.texts.now)) (g.T.Taker.taken_in (g.S.TextSource.text_in c.args.texts.now)) (g.I.Read.remaining c.args.input.now) dash c.read_from.ensures.read

pub returns-in-Ok-None-clause-named : goal.returns-in-Ok-None-clause-named
returns-in-Ok-None-clause-named g c =
    let plain : is_dash c.args.name.now ≡ false = cc in
    c.read_opened.ensures.named (g.I.Read.remaining c.args.input.now) plain
