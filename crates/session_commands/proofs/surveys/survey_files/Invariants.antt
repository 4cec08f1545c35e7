use Rattle.std.proofs.Common.{take, List, [], ℕ}
use Rattle.session_commands.specs.inner.Finding.{AreLogsOf, HasName}
use Rattle.session_commands.proofs.surveys.survey_files.Given as goal

abbrev pub invariant-loop-file : goal.invariant-loop-file
invariant-loop-file g l = (name : List ℕ) → HasName l.recording name → ((name : List ℕ) → AreLogsOf (g.S.TextSource.bytes_of l.texts) name [] l.fn.logs) → AreLogsOf (g.S.TextSource.bytes_of l.texts) name (take l.file-index l.files) l.logs
