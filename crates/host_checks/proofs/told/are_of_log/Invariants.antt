use Rattle.std.proofs.Common.{◌≡◌, length, take}
use Rattle.host_checks.specs.inner.Told.{AreTold}
use Rattle.host_checks.proofs.told.are_of_log.Given as goal

abbrev pub invariant-loop-rec : goal.invariant-loop-rec
invariant-loop-rec l = (length l.told.items ≡ length l.transcripts) × AreTold l.transcripts l.told.items (take l.rec-index l.log)
