-- A session in which a page is released at the target and never comes there, with its right certificate.
use Rattle.std.proofs.Common.{◌≡◌, ℕ, zero, suc, List, [], ◌∷◌, Some, refl, subst, arith}
use Rattle.std.specs.Prelude.{slice_get}
use Rattle.migration_types.specs.declared.records.LogName.{LogName}
use Rattle.migration_types.specs.declared.records.LogName.TheVariants.{Guest, Source as FromSource, Link, Lane, Pager}
use Rattle.migration_types.specs.declared.records.GuestRec.TheVariants.{Read, Release, Halt, Resume}
use Rattle.migration_types.specs.declared.records.SourceRec.TheVariants.{Halted, State, Send}
use Rattle.migration_types.specs.declared.records.LinkRec.TheVariants.{Down}
use Rattle.migration_types.specs.declared.records.PagerRec.TheVariants.{Got, Ready, Skip}
use Rattle.migration_types.specs.declared.cert.Run.{Run}
use Rattle.migration_types.specs.declared.cert.Entry.{Entry}
use Rattle.migration_types.specs.declared.cert.Entry.TheVariants.{Fresh}
use Rattle.migration_types.specs.Certs.{Certified}
use Rattle.migration_types.specs.declared.version.Version.TheVariants.{Two}
use Rattle.migration_types.specs.declared.size.Size.TheVariants.{Small}
use Rattle.migration_types.specs.Limits.{limits}
use Rattle.migration_types.specs.Sessions.{Recorded, IsSession}
use Rattle.audit_model.specs.Names.{log_length}
use Rattle.audit_model.specs.Mergings.{IsMerging, spelled, at_start}
use Rattle.audit_model.specs.Walks.{cursors_from}
use Rattle.audit_model.specs.Shape.{IsRightShape}
use Rattle.audit_model.specs.Certificates.{IsRightCertificate, IsRightEntry}
use Rattle.audit_model.specs.Laws.{IsCertified, CertifiedFresh}
use Rattle.audit_model.proofs.Walked.{walk_merges}
use Rattle.audit_model.proofs.WrittenOut.{each_few, shape_by_tests, walks_by_test, honest_by_tests, first_by_test, unplaced_by_test}

abbrev session_c : Recorded
session_c = record {
  version = Two;
  geometry = record { size = Small; pages = 1; cells = 1 };
  init = record { page = 0; cells = 6 ∷ [] } ∷ [];
  guest = Halt ∷ Resume 1 ∷ Release 0 0 ∷ Read 0 0 0 0 ∷ [];
  source = Halted 0 ∷ State ∷ Send 0 (6 ∷ []) ∷ [];
  link = Down 1 ∷ Down 2 ∷ [];
  lane = [];
  pager = Got 0 ∷ Ready ∷ Got 1 ∷ Skip 2 ∷ [];
}

shape_c : IsRightShape session_c
shape_c = shape_by_tests session_c refl refl refl refl refl refl refl refl refl refl

abbrev runs_c : List Run
runs_c =
    record { log = Guest; count = 1 } ∷ record { log = FromSource; count = 3 } ∷ record { log = Link; count = 2 } ∷ record { log = Pager; count = 4 } ∷
    record { log = Guest; count = 3 } ∷ []

ends_c : (l : LogName) → cursors_from at_start (spelled runs_c) l ≡ log_length session_c l
ends_c Guest = refl
ends_c FromSource = refl
ends_c Link = refl
ends_c Lane = refl
ends_c Pager = refl

merging_c : IsMerging session_c (spelled runs_c)
merging_c = walk_merges session_c (spelled runs_c) (walks_by_test session_c at_start (spelled runs_c) refl) ends_c

page_0 : IsRightEntry session_c 0 (Fresh 2)
page_0 = (
  honest_by_tests session_c 0 refl refl refl,
  record { unplaced = unplaced_by_test session_c 0 refl; vcpu = 0; is_release = refl; is_late = refl; is_first = first_by_test session_c 0 2 refl },
)

abbrev certificate_c : Certified
certificate_c = record { version = Two; size = Small; entries = Fresh 2 ∷ []; runs = runs_c }

entries_c : (page : ℕ) (entry : Entry) → slice_get certificate_c.entries page ≡ Some entry → IsRightEntry session_c page entry
entries_c zero entry is = let e : Fresh 2 ≡ entry = cc in subst (λ x. IsRightEntry session_c 0 x) e page_0
entries_c (suc n) entry is = absurd (cc)

right_c : IsRightCertificate session_c certificate_c
right_c = record { pages = refl; entries = entries_c; merging = merging_c }

limits_c : IsSession session_c
limits_c = record {
  size = tt;
  geometry = record { some_pages = omega arith; few_pages = omega arith; some_cells = omega arith; few_cells = omega arith; few_in_all = omega arith; own = record { pages = omega arith; cells = omega arith } };
  init = record {
    each = (record { page = omega arith; content = record { count = refl; each = (omega arith, tt) }; not_zeros = λ zeros. absurd (let e = zeros.0 in cc) }, tt);
    rising = λ k lt. absurd (omega arith);
  };
  few_guest = omega arith;
  few_source = omega arith;
  few_link = omega arith;
  few_lane = omega arith;
  few_pager = omega arith;
  own = each_few session_c (limits Small).records (omega arith) (omega arith) (omega arith) (omega arith) (omega arith);
  guest = (tt, (omega arith, ((omega arith, omega arith), ((omega arith, omega arith, omega arith, omega arith), tt))));
  source = (omega arith, (tt, ((omega arith, record { count = refl; each = (omega arith, tt) }), tt)));
  link = (omega arith, (omega arith, tt));
  lane = tt;
  pager = (omega arith, (tt, (omega arith, (omega arith, tt))));
}

pub certified_c : IsCertified session_c certificate_c
certified_c = record { is_session = limits_c; shape = shape_c; certificate = right_c }

pub fresh : CertifiedFresh
fresh = record {
  session = session_c;
  certificate = certificate_c;
  is_certified = certified_c;
  page = 0;
  first = 2;
  entry = refl;
}
