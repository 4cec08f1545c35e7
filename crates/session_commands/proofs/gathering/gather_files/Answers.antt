use Rattle.session_commands.proofs.gathering.gather_files.Goals as goal

pub returns-in-Ok : goal.returns-in-Ok
returns-in-Ok g c = c.whole_session.ensures (g.S.TextSource.bytes_of c.args.texts.now) c.args.logs.now c.in-Ok.ensures
