-- A log that has no room for a record, and one that has.
use Rattle.std.proofs.Common.{◌≡◌, ℕ, ◌<◌, ◌≤◌, List, [], ◌∷◌, ◌++◌, length, Some, None, refl, length-append, arith, true, false}
use Rattle.std.specs.Prelude.{nat_le}
use Rattle.std.proofs.lemmas.Bool.Decides.{nat_tests}
use Rattle.migration_types.specs.Limits.{most_records}
use Rattle.migration_types.specs.declared.records.GuestRec.{GuestRec}
use Rattle.migration_types.specs.declared.records.GuestRec.TheVariants.{Read}
use Rattle.migration_events.specs.declared.events.Event.TheVariants.{GuestStep, Push}
use Rattle.migration_model.specs.Events.{event, step}
use Rattle.migration_model.proofs.Orders.{grown_none}
use Rattle.migration_types.specs.declared.records.LogName.TheVariants.{Guest}
use Rattle.migration_model.specs.Worked.{IsRefusedWhenFull, core_with}

le_false : (a b : ℕ) → b < a → nat_le a b ≡ false
le_false a b lt = grind (arith, nat_tests, lt)

le_true : (a b : ℕ) → a ≤ b → nat_le a b ≡ true
le_true a b le = grind (arith, nat_tests, le)

refused : (log : List GuestRec) → length log ≡ most_records → step (GuestStep 0) (core_with log) ≡ None
refused log long = rw (le_false (length (log ++ Read 0 0 0 0 ∷ [])) most_records (omega (arith, length-append log (Read 0 0 0 0 ∷ []), long))) refl

taken : (log : List GuestRec) → length log < most_records → step (GuestStep 0) (core_with log) ≡ Some (event (GuestStep 0) (core_with log))
taken log less = rw (le_true (length (log ++ Read 0 0 0 0 ∷ [])) most_records (omega (arith, length-append log (Read 0 0 0 0 ∷ []), less))) refl

silent : (log : List GuestRec) → length log ≡ most_records → step Push (core_with log) ≡ Some (core_with log)
silent log long = rw (grown_none Guest log, le_true (length log) most_records (omega (arith, long))) refl

pub refused_when_full : IsRefusedWhenFull
refused_when_full = record { refused = refused; taken = λ log less. (event (GuestStep 0) (core_with log), taken log less); silent = silent }
