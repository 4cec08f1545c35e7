-- A session whose last read gives a wrong value, and its front without that read, which is safe.
use Rattle.std.proofs.Common.{◌≡◌, ◌≤◌, List, [], ◌∷◌, refl, arith}
use Rattle.migration_types.specs.declared.records.LogName.{LogName}
use Rattle.migration_types.specs.declared.records.LogName.TheVariants.{Guest, Source, Link, Lane, Pager}
use Rattle.migration_types.specs.declared.records.GuestRec.TheVariants.{Read, Halt, Resume, See}
use Rattle.migration_types.specs.declared.records.SourceRec.TheVariants.{Halted, State, Send}
use Rattle.migration_types.specs.declared.records.LinkRec.TheVariants.{Down}
use Rattle.migration_types.specs.declared.records.LaneRec.TheVariants.{Down as LaneDown}
use Rattle.migration_types.specs.declared.records.PagerRec.TheVariants.{Got, Pull, Ready, Place}
use Rattle.migration_types.specs.declared.cert.Run.{Run}
use Rattle.migration_types.specs.declared.version.Version.TheVariants.{Two}
use Rattle.migration_types.specs.declared.size.Size.TheVariants.{Small}
use Rattle.migration_types.specs.Receipts.{Name}
use Rattle.migration_types.specs.Sessions.{Recorded, IsSession, log_length}
use Rattle.migration_types.specs.Limits.{limits}
use Rattle.audit_model.specs.Mergings.{IsMerging, Cursors, spelled, at_start}
use Rattle.audit_model.specs.Walks.{cursors_from}
use Rattle.audit_model.specs.Shape.{IsRightShape}
use Rattle.audit_model.specs.World.{IsSafe}
use Rattle.audit_model.proofs.Headline.{certified_safe}
use Rattle.audit_model.proofs.ExampleD.{certified_d}
use Rattle.audit_model.proofs.Walked.{walk_merges}
use Rattle.audit_model.proofs.WrittenOut.{each_few, shape_by_tests, walks_by_test}
use Rattle.recorder_files.specs.Reaches.{names_in}
use Rattle.recorder_files.specs.inner.Reaches.{reach}
use Rattle.recorder_files.proofs.Cuts.{is_front}
use Rattle.kept_faults.specs.Left.{HasSafeFront}
use Rattle.recorder_files.specs.Fronts.{IsFront, cut_to}

abbrev whole : Recorded
whole = record {
  version = Two;
  geometry = record { size = Small; pages = 1; cells = 1 };
  init = record { page = 0; cells = 6 ∷ [] } ∷ [];
  guest = Halt ∷ Resume 1 ∷ See 3 ∷ Read 0 0 0 6 ∷ Read 0 0 0 7 ∷ [];
  source = Halted 0 ∷ State ∷ Send 0 (6 ∷ []) ∷ [];
  link = Down 1 ∷ [];
  lane = LaneDown 2 ∷ [];
  pager = Got 0 ∷ Ready ∷ Pull 0 ∷ Place 0 2 (6 ∷ []) ∷ [];
}

-- all but the last record of the guest
abbrev cursors : Cursors
cursors Guest = 4
cursors Source = 3
cursors Link = 1
cursors Lane = 1
cursors Pager = 4

shape : IsRightShape whole
shape = shape_by_tests whole refl refl refl refl refl refl refl refl refl refl

abbrev runs : List Run
runs =
    record { log = Guest; count = 1 } ∷ record { log = Source; count = 3 } ∷ record { log = Link; count = 1 } ∷ record { log = Lane; count = 1 } ∷
    record { log = Pager; count = 4 } ∷ record { log = Guest; count = 4 } ∷ []

ends : (l : LogName) → cursors_from at_start (spelled runs) l ≡ log_length whole l
ends Guest = refl
ends Source = refl
ends Link = refl
ends Lane = refl
ends Pager = refl

merging : IsMerging whole (spelled runs)
merging = walk_merges whole (spelled runs) (walks_by_test whole at_start (spelled runs) refl) ends

-- the names before the last read
abbrev before_it : List Name
before_it = (Guest, 0) ∷ (Source, 0) ∷ (Source, 1) ∷ (Source, 2) ∷ (Link, 0) ∷ (Lane, 0) ∷ (Pager, 0) ∷ (Pager, 1) ∷ (Pager, 2) ∷ (Pager, 3) ∷ (Guest, 1) ∷ (Guest, 2) ∷ (Guest, 3) ∷ []

is_unsafe : IsSafe whole → ⊥
is_unsafe safe =
    let demand = safe (spelled runs) merging before_it (Guest, 4) ([], refl) in
    let wrong : 7 ≡ 6 = demand.is_flat in
    omega (arith, wrong)

limits_kept : IsSession whole
limits_kept = record {
  size = tt;
  geometry = record { some_pages = omega arith; few_pages = omega arith; some_cells = omega arith; few_cells = omega arith; few_in_all = omega arith; own = record { pages = omega arith; cells = omega arith } };
  init = record {
    each = (record { page = omega arith; content = record { count = refl; each = (omega arith, tt) }; not_zeros = λ zeros. absurd (let e = zeros.0 in cc) }, tt);
    rising = λ k lt. absurd (omega arith);
  };
  few_guest = omega arith;
  few_source = omega arith;
  few_link = omega arith;
  few_lane = omega arith;
  few_pager = omega arith;
  own = each_few whole (limits Small).records (omega arith) (omega arith) (omega arith) (omega arith) (omega arith);
  guest = (tt, (omega arith, (omega arith, ((omega arith, omega arith, omega arith, omega arith), ((omega arith, omega arith, omega arith, omega arith), tt)))));
  source = (omega arith, (tt, ((omega arith, record { count = refl; each = (omega arith, tt) }), tt)));
  link = (omega arith, tt);
  lane = ((tt, omega arith), tt);
  pager = (omega arith, (tt, ((tt, omega arith), ((omega arith, omega arith, record { count = refl; each = (omega arith, tt) }), tt))));
}

-- each log goes to the front's end, and what its records name does not stop it before
is_front_of_it : IsFront whole cursors
is_front_of_it = is_front whole cursors within reaches
  where
    within : (log : LogName) → cursors log ≤ log_length whole log
    within Guest = omega arith
    within Source = omega arith
    within Link = omega arith
    within Lane = omega arith
    within Pager = omega arith

    reaches : (log : LogName) → cursors log ≤ reach cursors (names_in whole log)
    reaches Guest = omega arith
    reaches Source = omega arith
    reaches Link = omega arith
    reaches Lane = omega arith
    reaches Pager = omega arith

pub safe_front : HasSafeFront
safe_front = record {
  whole = whole;
  cursors = cursors;
  front = is_front_of_it;
  is_session = limits_kept;
  shape = shape;
  merging = (spelled runs, merging);
  is_unsafe = is_unsafe;
  is_safe = certified_safe (cut_to cursors whole) _ certified_d;
}
