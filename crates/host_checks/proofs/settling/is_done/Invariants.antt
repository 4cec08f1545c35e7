use Rattle.std.proofs.Common.{◌≡◌, ℕ, ◌<◌, Some}
use Rattle.std.specs.Prelude.{slice_get}
use Rattle.migration_types.specs.declared.records.SourceRec.TheVariants.{Done}
use Rattle.host_checks.proofs.settling.is_done.Given as goal

abbrev pub invariant-loop-n : goal.invariant-loop-n
invariant-loop-n l = (k : ℕ) → k < l.n → slice_get l.source k ≡ Some Done → ⊥
