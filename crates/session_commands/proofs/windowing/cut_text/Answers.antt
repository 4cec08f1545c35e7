use Rattle.text_access.specs.Names.{files_of}
use Rattle.session_commands.proofs.Answered.{text_cut}
use Rattle.session_commands.proofs.windowing.cut_text.Goals as goal

pub returns-in-Ok-clause-cut : goal.returns-in-Ok-clause-cut
returns-in-Ok-clause-cut g c =
    let t = g.S.TextSource in
    let texts = c.args.texts.now in
    let read = c.in_ok-found.ensures.named in
    text_cut c.args.window c.args.name.now (files_of (t.bytes_of texts) (t.names_in texts)) (t.text_in texts) (g.I.Read.remaining c.args.input.now) c.in-Ok.out c.in_ok-found.why read.0 read.1 (c.in-Ok.ensures.cut read.0 read.2) read.3
