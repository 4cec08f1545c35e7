use Rattle.std.proofs.Common.{◌≡◌, ◌≢◌, ℕ, ◌<◌, false, Some}
use Rattle.std.specs.Prelude.{slice_get}
use Rattle.migration_types.specs.declared.cert.Entry.{Entry}
use Rattle.migration_types.specs.declared.cert.Entry.TheVariants.{Nothing}
use Rattle.balloon_ledger.specs.Released.{released}
use Rattle.host_checks.proofs.machine.owed_are_placed.Given as goal

abbrev pub invariant-loop-page : goal.invariant-loop-page
invariant-loop-page l = (p : ℕ) (entry : Entry) → p < l.page → slice_get l.entries p ≡ Some entry → released l.machine.ledger p ≡ false → entry ≢ Nothing
