-- A session in which a released page comes back as zeros, with its right certificate.
use Rattle.std.proofs.Common.{◌≡◌, ℕ, zero, suc, List, [], ◌∷◌, Some, refl, subst, arith}
use Rattle.std.specs.Prelude.{slice_get}
use Rattle.std.specs.List.Sorted.{IsStrictlyIncreasing}
use Rattle.migration_types.specs.declared.records.LogName.{LogName}
use Rattle.migration_types.specs.declared.records.LogName.TheVariants.{Guest, Source as FromSource, Link, Lane, Pager}
use Rattle.migration_types.specs.declared.records.GuestRec.TheVariants.{Read, Release, Miss, Halt, Resume, See}
use Rattle.migration_types.specs.declared.records.SourceRec.TheVariants.{Halted, State}
use Rattle.migration_types.specs.declared.records.LinkRec.TheVariants.{Down}
use Rattle.migration_types.specs.declared.records.PagerRec.TheVariants.{Got, Ready, Fault, Zero}
use Rattle.migration_types.specs.declared.cert.First.{First}
use Rattle.migration_types.specs.declared.cert.Run.{Run}
use Rattle.migration_types.specs.declared.cert.Entry.{Entry}
use Rattle.migration_types.specs.declared.cert.Entry.TheVariants.{Nothing, Balloon}
use Rattle.migration_types.specs.Certs.{Certified}
use Rattle.migration_types.specs.declared.version.Version.TheVariants.{One}
use Rattle.migration_types.specs.declared.size.Size.TheVariants.{Small}
use Rattle.migration_types.specs.Limits.{limits}
use Rattle.migration_types.specs.Sessions.{Recorded, IsSession}
use Rattle.audit_model.specs.Names.{log_length}
use Rattle.audit_model.specs.Mergings.{IsMerging, spelled, at_start}
use Rattle.audit_model.specs.Walks.{cursors_from}
use Rattle.audit_model.specs.Shape.{IsRightShape}
use Rattle.audit_model.specs.Certificates.{IsRightCertificate, IsRightEntry}
use Rattle.audit_model.specs.Laws.{IsCertified, CertifiedBalloon}
use Rattle.audit_model.proofs.Walked.{walk_merges}
use Rattle.audit_model.proofs.WrittenOut.{each_few, shape_by_tests, walks_by_test, honest_by_tests, only_by_test, first_by_test, unplaced_by_test, untouched_by_test}

abbrev session_b : Recorded
session_b = record {
  version = One;
  geometry = record { size = Small; pages = 2; cells = 1 };
  init = record { page = 0; cells = 5 ∷ [] } ∷ record { page = 1; cells = 6 ∷ [] } ∷ [];
  guest = Release 0 1 ∷ Halt ∷ Resume 1 ∷ Miss 0 1 ∷ See 3 ∷ Read 0 1 0 0 ∷ [];
  source = Halted 1 ∷ State ∷ [];
  link = Down 1 ∷ [];
  lane = [];
  pager = Got 0 ∷ Ready ∷ Fault 3 ∷ Zero 1 ∷ [];
}

shape_b : IsRightShape session_b
shape_b = shape_by_tests session_b refl refl refl refl refl refl refl refl refl refl

abbrev runs_b : List Run
runs_b =
    record { log = Guest; count = 2 } ∷ record { log = FromSource; count = 2 } ∷ record { log = Link; count = 1 } ∷ record { log = Pager; count = 2 } ∷
    record { log = Guest; count = 2 } ∷ record { log = Pager; count = 2 } ∷ record { log = Guest; count = 2 } ∷ []

ends_b : (l : LogName) → cursors_from at_start (spelled runs_b) l ≡ log_length session_b l
ends_b Guest = refl
ends_b FromSource = refl
ends_b Link = refl
ends_b Lane = refl
ends_b Pager = refl

merging_b : IsMerging session_b (spelled runs_b)
merging_b = walk_merges session_b (spelled runs_b) (walks_by_test session_b at_start (spelled runs_b) refl) ends_b

abbrev first_1 : First
first_1 = record { access = 5; see = 4 }

page_0 : IsRightEntry session_b 0 Nothing
page_0 = (
  honest_by_tests session_b 0 refl refl refl,
  record { unplaced = unplaced_by_test session_b 0 refl; untouched = untouched_by_test session_b 0 refl },
)

page_1 : IsRightEntry session_b 1 (Balloon 3 (Some first_1))
page_1 = (
  honest_by_tests session_b 1 refl refl refl,
  record {
    is_zeroed = refl;
    is_only = only_by_test session_b 1 3 refl;
    is_released = refl;
    is_covered = record {
      is_touch = record { by = Read 0 1 0 0; stands = refl; is_touch = refl; is_late = refl };
      is_first = first_by_test session_b 1 5 refl;
      placement = 3;
      sees = refl;
      covers = omega arith;
      is_earlier = omega arith;
    };
  },
)

abbrev certificate_b : Certified
certificate_b = record { version = One; size = Small; entries = Nothing ∷ Balloon 3 (Some first_1) ∷ []; runs = runs_b }

entries_b : (page : ℕ) (entry : Entry) → slice_get certificate_b.entries page ≡ Some entry → IsRightEntry session_b page entry
entries_b zero entry is = let e : Nothing ≡ entry = cc in subst (λ x. IsRightEntry session_b 0 x) e page_0
entries_b (suc zero) entry is = let e : Balloon 3 (Some first_1) ≡ entry = cc in subst (λ x. IsRightEntry session_b 1 x) e page_1
entries_b (suc (suc n)) entry is = absurd (cc)

right_b : IsRightCertificate session_b certificate_b
right_b = record { pages = refl; entries = entries_b; merging = merging_b }

limits_b : IsSession session_b
limits_b = record {
  size = tt;
  geometry = record { some_pages = omega arith; few_pages = omega arith; some_cells = omega arith; few_cells = omega arith; few_in_all = omega arith; own = record { pages = omega arith; cells = omega arith } };
  init = record {
    each = (
      record { page = omega arith; content = record { count = refl; each = (omega arith, tt) }; not_zeros = λ zeros. absurd (let e = zeros.0 in cc) },
      (record { page = omega arith; content = record { count = refl; each = (omega arith, tt) }; not_zeros = λ zeros. absurd (let e = zeros.0 in cc) }, tt),
    );
    rising = rising;
  };
  few_guest = omega arith;
  few_source = omega arith;
  few_link = omega arith;
  few_lane = omega arith;
  few_pager = omega arith;
  own = each_few session_b (limits Small).records (omega arith) (omega arith) (omega arith) (omega arith) (omega arith);
  guest = ((omega arith, omega arith), (tt, (omega arith, ((omega arith, omega arith), (omega arith, ((omega arith, omega arith, omega arith, omega arith), tt))))));
  source = (omega arith, (tt, tt));
  link = (omega arith, tt);
  lane = tt;
  pager = (omega arith, (tt, (omega arith, (omega arith, tt))));
}
  where
    rising : IsStrictlyIncreasing (0 ∷ 1 ∷ [])
    rising zero lt = omega arith
    rising (suc k) lt = absurd (omega arith)

pub certified_b : IsCertified session_b certificate_b
certified_b = record { is_session = limits_b; shape = shape_b; certificate = right_b }

pub balloon : CertifiedBalloon
balloon = record {
  session = session_b;
  certificate = certificate_b;
  is_certified = certified_b;
  page = 1;
  place = 3;
  first = first_1;
  entry = refl;
}
