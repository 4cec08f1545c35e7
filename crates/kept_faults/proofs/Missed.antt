-- A session with a placement over a release, and its front without that release, which does not show it.
use Rattle.std.proofs.Common.{◌≡◌, ℕ, zero, suc, ◌≤◌, [], ◌∷◌, Some, refl, arith}
use Rattle.std.specs.Prelude.{slice_get}
use Rattle.migration_types.specs.declared.records.LogName.{LogName}
use Rattle.migration_types.specs.declared.records.LogName.TheVariants.{Guest, Source, Link, Lane, Pager}
use Rattle.migration_types.specs.declared.records.GuestRec.TheVariants.{Release, Halt, Resume}
use Rattle.migration_types.specs.declared.records.SourceRec.TheVariants.{Halted, State, Send}
use Rattle.migration_types.specs.declared.records.LinkRec.TheVariants.{Down}
use Rattle.migration_types.specs.declared.records.LaneRec.TheVariants.{Down as LaneDown}
use Rattle.migration_types.specs.declared.records.PagerRec.TheVariants.{Got, Pull, Ready, Place}
use Rattle.migration_types.specs.declared.version.Version.TheVariants.{Two}
use Rattle.migration_types.specs.declared.size.Size.TheVariants.{Small}
use Rattle.migration_types.specs.Sessions.{Recorded, log_length}
use Rattle.audit_model.specs.Faults.{IsOver}
use Rattle.audit_model.specs.Mergings.{Cursors}
use Rattle.audit_model.proofs.WrittenOut.{shape_by_tests, first_by_test}
use Rattle.recorder_files.specs.Fronts.{IsFront, cut_to}
use Rattle.recorder_files.specs.Reaches.{names_in}
use Rattle.recorder_files.specs.inner.Reaches.{reach}
use Rattle.recorder_files.proofs.Cuts.{is_front}
use Rattle.kept_faults.specs.FrontLaws.{LacksFault}

abbrev whole : Recorded
whole = record {
  version = Two;
  geometry = record { size = Small; pages = 1; cells = 1 };
  init = record { page = 0; cells = 6 ∷ [] } ∷ [];
  guest = Halt ∷ Resume 1 ∷ Release 0 0 ∷ [];
  source = Halted 0 ∷ State ∷ Send 0 (6 ∷ []) ∷ [];
  link = Down 1 ∷ [];
  lane = LaneDown 2 ∷ [];
  pager = Got 0 ∷ Ready ∷ Pull 0 ∷ Place 0 2 (6 ∷ []) ∷ [];
}

-- all but the release
abbrev cursors : Cursors
cursors Guest = 2
cursors Source = 3
cursors Link = 1
cursors Lane = 1
cursors Pager = 4

is_front_of_it : IsFront whole cursors
is_front_of_it = is_front whole cursors within reaches
  where
    within : (log : LogName) → cursors log ≤ log_length whole log
    within Guest = omega arith
    within Source = omega arith
    within Link = omega arith
    within Lane = omega arith
    within Pager = omega arith

    reaches : (log : LogName) → cursors log ≤ reach cursors (names_in whole log)
    reaches Guest = omega arith
    reaches Source = omega arith
    reaches Link = omega arith
    reaches Lane = omega arith
    reaches Pager = omega arith

is_over : IsOver whole 0
is_over = record { release = 2; vcpu = 0; stands = refl; is_late = refl; is_first = first_by_test whole 0 2 refl; is_uncovered = refl }

-- the front has no release
is_not_over : IsOver (cut_to cursors whole) 0 → ⊥
is_not_over o = go o.release o.stands
  where
    go : (n : ℕ) → slice_get (cut_to cursors whole).guest n ≡ Some (Release o.vcpu 0) → ⊥
    go zero e = absurd (cc)
    go (suc zero) e = absurd (cc)
    go (suc (suc n)) e = absurd (cc)

pub lacks_fault : LacksFault
lacks_fault = record {
  whole = whole;
  shape = shape_by_tests whole refl refl refl refl refl refl refl refl refl refl;
  cursors = cursors;
  front = is_front_of_it;
  name = (Pager, 3);
  is_inside = omega arith;
  is_fault = (refl, is_over);
  is_lacking = λ h. is_not_over h.1;
}
