use Rattle.text_access.specs.Names.{names_of}
use Rattle.session_commands.proofs.surveys.find_logs.Goals as goal

pub returns-in-Ok : goal.returns-in-Ok
returns-in-Ok g c = λ found. c.in-Ok.ensures (names_of c.args.folders.now) (λ name. c.new-logs.ensures (g.S.TextSource.bytes_of c.args.texts.now) name) (rw c.as_slice-files.ensures.value found)
