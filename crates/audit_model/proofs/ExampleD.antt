-- A session in which a page comes from the source over the lane, with its right certificate.
use Rattle.std.proofs.Common.{◌≡◌, ℕ, zero, suc, inl, List, [], ◌∷◌, Some, refl, subst, arith}
use Rattle.std.specs.Prelude.{slice_get}
use Rattle.migration_types.specs.declared.records.LogName.{LogName}
use Rattle.migration_types.specs.declared.records.LogName.TheVariants.{Guest, Source as FromSource, Link, Lane, Pager}
use Rattle.migration_types.specs.declared.records.GuestRec.TheVariants.{Read, Halt, Resume, See}
use Rattle.migration_types.specs.declared.records.SourceRec.TheVariants.{Halted, State, Send}
use Rattle.migration_types.specs.declared.records.LinkRec.TheVariants.{Down}
use Rattle.migration_types.specs.declared.records.LaneRec.TheVariants.{Down as LaneDown}
use Rattle.migration_types.specs.declared.records.PagerRec.TheVariants.{Got, Pull, Ready, Place}
use Rattle.migration_types.specs.declared.cert.First.{First}
use Rattle.migration_types.specs.declared.cert.Run.{Run}
use Rattle.migration_types.specs.declared.cert.Entry.{Entry}
use Rattle.migration_types.specs.declared.cert.Entry.TheVariants.{Source}
use Rattle.migration_types.specs.Certs.{Certified}
use Rattle.migration_types.specs.declared.version.Version.TheVariants.{Two}
use Rattle.migration_types.specs.declared.size.Size.TheVariants.{Small}
use Rattle.migration_types.specs.Limits.{limits}
use Rattle.migration_types.specs.Sessions.{Recorded, IsSession}
use Rattle.audit_model.specs.Names.{log_length}
use Rattle.audit_model.specs.Mergings.{IsMerging, spelled, at_start}
use Rattle.audit_model.specs.Walks.{cursors_from}
use Rattle.audit_model.specs.Shape.{IsRightShape}
use Rattle.audit_model.specs.Certificates.{IsRightCertificate, IsRightEntry}
use Rattle.audit_model.specs.Laws.{IsCertified, CertifiedOverLane}
use Rattle.audit_model.proofs.Walked.{walk_merges}
use Rattle.audit_model.proofs.WrittenOut.{each_few, shape_by_tests, walks_by_test, honest_by_tests, only_by_test, first_by_test}

abbrev session_d : Recorded
session_d = record {
  version = Two;
  geometry = record { size = Small; pages = 1; cells = 1 };
  init = record { page = 0; cells = 6 ∷ [] } ∷ [];
  guest = Halt ∷ Resume 1 ∷ See 3 ∷ Read 0 0 0 6 ∷ [];
  source = Halted 0 ∷ State ∷ Send 0 (6 ∷ []) ∷ [];
  link = Down 1 ∷ [];
  lane = LaneDown 2 ∷ [];
  pager = Got 0 ∷ Ready ∷ Pull 0 ∷ Place 0 2 (6 ∷ []) ∷ [];
}

shape_d : IsRightShape session_d
shape_d = shape_by_tests session_d refl refl refl refl refl refl refl refl refl refl

abbrev runs_d : List Run
runs_d =
    record { log = Guest; count = 1 } ∷ record { log = FromSource; count = 3 } ∷ record { log = Link; count = 1 } ∷ record { log = Lane; count = 1 } ∷
    record { log = Pager; count = 4 } ∷ record { log = Guest; count = 3 } ∷ []

ends_d : (l : LogName) → cursors_from at_start (spelled runs_d) l ≡ log_length session_d l
ends_d Guest = refl
ends_d FromSource = refl
ends_d Link = refl
ends_d Lane = refl
ends_d Pager = refl

merging_d : IsMerging session_d (spelled runs_d)
merging_d = walk_merges session_d (spelled runs_d) (walks_by_test session_d at_start (spelled runs_d) refl) ends_d

abbrev first_0 : First
first_0 = record { access = 3; see = 2 }

page_0 : IsRightEntry session_d 0 (Source 2 3 (Some first_0))
page_0 = (
  honest_by_tests session_d 0 refl refl refl,
  record {
    sent = 6 ∷ [];
    is_sent = refl;
    got = 2;
    content = 6 ∷ [];
    is_placed = refl;
    delivered = 2;
    is_delivery = refl;
    is_the_send = inl refl;
    is_flat = refl;
    is_only = only_by_test session_d 0 3 refl;
    is_covered = record {
      is_touch = record { by = Read 0 0 0 6; stands = refl; is_touch = refl; is_late = refl };
      is_first = first_by_test session_d 0 3 refl;
      placement = 3;
      sees = refl;
      covers = omega arith;
      is_earlier = omega arith;
    };
  },
)

abbrev certificate_d : Certified
certificate_d = record { version = Two; size = Small; entries = Source 2 3 (Some first_0) ∷ []; runs = runs_d }

entries_d : (page : ℕ) (entry : Entry) → slice_get certificate_d.entries page ≡ Some entry → IsRightEntry session_d page entry
entries_d zero entry is = let e : Source 2 3 (Some first_0) ≡ entry = cc in subst (λ x. IsRightEntry session_d 0 x) e page_0
entries_d (suc n) entry is = absurd (cc)

right_d : IsRightCertificate session_d certificate_d
right_d = record { pages = refl; entries = entries_d; merging = merging_d }

limits_d : IsSession session_d
limits_d = record {
  size = tt;
  geometry = record { some_pages = omega arith; few_pages = omega arith; some_cells = omega arith; few_cells = omega arith; few_in_all = omega arith; own = record { pages = omega arith; cells = omega arith } };
  init = record {
    each = (record { page = omega arith; content = record { count = refl; each = (omega arith, tt) }; not_zeros = λ zeros. absurd (let e = zeros.0 in cc) }, tt);
    rising = λ k lt. absurd (omega arith);
  };
  few_guest = omega arith;
  few_source = omega arith;
  few_link = omega arith;
  few_lane = omega arith;
  few_pager = omega arith;
  own = each_few session_d (limits Small).records (omega arith) (omega arith) (omega arith) (omega arith) (omega arith);
  guest = (tt, (omega arith, (omega arith, ((omega arith, omega arith, omega arith, omega arith), tt))));
  source = (omega arith, (tt, ((omega arith, record { count = refl; each = (omega arith, tt) }), tt)));
  link = (omega arith, tt);
  lane = ((tt, omega arith), tt);
  pager = (omega arith, (tt, ((tt, omega arith), ((omega arith, omega arith, record { count = refl; each = (omega arith, tt) }), tt))));
}

pub certified_d : IsCertified session_d certificate_d
certified_d = record { is_session = limits_d; shape = shape_d; certificate = right_d }

pub over_lane : CertifiedOverLane
over_lane = record {
  sourced = record {
    session = session_d;
    certificate = certificate_d;
    is_certified = certified_d;
    page = 0;
    send = 2;
    place = 3;
    first = first_0;
    entry = refl;
  };
  pull = 2;
  down = 0;
  content = 6 ∷ [];
  placement = refl;
  pulls = refl;
}
