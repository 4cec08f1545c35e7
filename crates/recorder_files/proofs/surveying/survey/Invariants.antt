use Rattle.std.proofs.Common.{◌≡◌, ◌-◌, ℕ, List, [], Option, length, ◌^◌}
use Rattle.recorder_files.specs.declared.lines.Party.{Party}
use Rattle.recorder_files.specs.Gathered.{Numbered}
use Rattle.recorder_files.specs.Said.{CameTo}
use Rattle.recorder_files.proofs.surveying.survey.Given as goal

abbrev pub invariant-records : goal.invariant-records
invariant-records g l = (party : Party) (known : Option (List ℕ)) → CameTo party known l.fn.file [] → (came : Numbered (List ℕ)) × CameTo party known l.file came × (l.records ≡ length came) × (l.next ≡ l.file.low) × (l.opening ≡ l.file.opening) × (l.file.name ≡ l.fn.file.name)

abbrev pub decreases-records : goal.decreases-records
decreases-records g l = 2 ^ 64 - l.records
