use Rattle.session_commands.proofs.Surveying.{no_logs}
use Rattle.session_commands.proofs.found.FoundLogs.new.Goals as goal

pub returns : goal.returns
returns c = λ bytes_of recording. no_logs bytes_of recording _ c.new.ensures c.new-2.ensures c.new-3.ensures c.new-4.ensures c.new-5.ensures c.new-6.ensures
