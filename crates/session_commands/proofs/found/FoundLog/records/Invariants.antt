use Rattle.std.specs.Prelude.{◌≡◌, sum_by, take}
use Rattle.session_commands.proofs.found.FoundLog.records.Given as goal

abbrev pub invariant-loop-file : goal.invariant-loop-file
invariant-loop-file l = l.records ≡ sum_by (λ s. s.records) (take l.file-index l.self.surveyed.items)
