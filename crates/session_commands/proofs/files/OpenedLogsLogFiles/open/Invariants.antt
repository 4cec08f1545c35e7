use Rattle.std.proofs.Common.{[]}
use Rattle.recorder_files.specs.declared.lines.Party.TheVariants.{Of}
use Rattle.recorder_files.specs.Said.{CameTo}
use Rattle.session_commands.specs.Files.{bytes_in}
use Rattle.session_commands.proofs.Firsts.{AreFirst}
use Rattle.session_commands.proofs.files.OpenedLogsLogFiles.open.Given as goal

abbrev pub invariant-loop-place : goal.invariant-loop-place
invariant-loop-place g l = AreFirst (λ known s. CameTo (Of l.log) known s []) (bytes_in (g.S.TextSource.bytes_of l.self.texts.now) l.self.logs.now l.log) l.place l.files.items
