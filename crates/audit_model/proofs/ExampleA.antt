-- A session in which both pages come from the source, with its right certificate.
use Rattle.std.proofs.Common.{◌≡◌, ℕ, zero, suc, inl, List, [], ◌∷◌, Some, refl, subst, arith}
use Rattle.std.specs.Prelude.{slice_get}
use Rattle.migration_types.specs.declared.records.LogName.{LogName}
use Rattle.migration_types.specs.declared.records.LogName.TheVariants.{Guest, Source as FromSource, Link, Lane, Pager}
use Rattle.migration_types.specs.declared.records.GuestRec.TheVariants.{Read, Write, Miss, Halt, Resume, See}
use Rattle.migration_types.specs.declared.records.SourceRec.TheVariants.{Halted, State, Send, Ask}
use Rattle.migration_types.specs.declared.records.LinkRec.TheVariants.{Down, Up}
use Rattle.migration_types.specs.declared.records.PagerRec.TheVariants.{Got, Ready, Fault, Want, Place}
use Rattle.migration_types.specs.declared.cert.First.{First}
use Rattle.migration_types.specs.declared.cert.Run.{Run}
use Rattle.migration_types.specs.declared.cert.Entry.{Entry}
use Rattle.migration_types.specs.declared.cert.Entry.TheVariants.{Source}
use Rattle.migration_types.specs.Certs.{Certified}
use Rattle.migration_types.specs.declared.version.Version.TheVariants.{One}
use Rattle.migration_types.specs.declared.size.Size.TheVariants.{Small}
use Rattle.migration_types.specs.Limits.{limits}
use Rattle.migration_types.specs.Sessions.{Recorded, IsSession}
use Rattle.audit_model.specs.Names.{log_length}
use Rattle.audit_model.specs.Mergings.{IsMerging, spelled, at_start}
use Rattle.audit_model.specs.Walks.{cursors_from}
use Rattle.audit_model.specs.Shape.{IsRightShape}
use Rattle.audit_model.specs.Certificates.{IsRightCertificate, IsRightEntry}
use Rattle.audit_model.specs.Laws.{IsCertified, CertifiedFromSource}
use Rattle.audit_model.proofs.Walked.{walk_merges}
use Rattle.audit_model.proofs.WrittenOut.{each_few, shape_by_tests, walks_by_test, honest_by_tests, only_by_test, first_by_test}

abbrev session_a : Recorded
session_a = record {
  version = One;
  geometry = record { size = Small; pages = 2; cells = 1 };
  init = record { page = 0; cells = 5 ∷ [] } ∷ [];
  guest = Write 0 1 0 7 ∷ Halt ∷ Resume 1 ∷ Miss 0 0 ∷ See 5 ∷ Read 0 0 0 5 ∷ See 7 ∷ Write 0 1 0 9 ∷ Read 0 1 0 9 ∷ [];
  source = Halted 1 ∷ State ∷ Ask 1 ∷ Send 0 (5 ∷ []) ∷ Send 1 (7 ∷ []) ∷ [];
  link = Down 1 ∷ Up 3 ∷ Down 3 ∷ Down 4 ∷ [];
  lane = [];
  pager = Got 0 ∷ Ready ∷ Fault 3 ∷ Want 0 ∷ Got 2 ∷ Place 0 4 (5 ∷ []) ∷ Got 3 ∷ Place 1 6 (7 ∷ []) ∷ [];
}

shape_a : IsRightShape session_a
shape_a = shape_by_tests session_a refl refl refl refl refl refl refl refl refl refl

abbrev runs_a : List Run
runs_a =
    record { log = Guest; count = 2 } ∷ record { log = FromSource; count = 2 } ∷ record { log = Link; count = 1 } ∷ record { log = Pager; count = 2 } ∷
    record { log = Guest; count = 2 } ∷ record { log = Pager; count = 2 } ∷ record { log = Link; count = 1 } ∷ record { log = FromSource; count = 3 } ∷
    record { log = Link; count = 2 } ∷ record { log = Pager; count = 4 } ∷ record { log = Guest; count = 5 } ∷ []

ends_a : (l : LogName) → cursors_from at_start (spelled runs_a) l ≡ log_length session_a l
ends_a Guest = refl
ends_a FromSource = refl
ends_a Link = refl
ends_a Lane = refl
ends_a Pager = refl

merging_a : IsMerging session_a (spelled runs_a)
merging_a = walk_merges session_a (spelled runs_a) (walks_by_test session_a at_start (spelled runs_a) refl) ends_a

abbrev first_0 : First
first_0 = record { access = 5; see = 4 }

abbrev first_1 : First
first_1 = record { access = 7; see = 6 }

page_0 : IsRightEntry session_a 0 (Source 3 5 (Some first_0))
page_0 = (
  honest_by_tests session_a 0 refl refl refl,
  record {
    sent = 5 ∷ [];
    is_sent = refl;
    got = 4;
    content = 5 ∷ [];
    is_placed = refl;
    delivered = 3;
    is_delivery = refl;
    is_the_send = inl refl;
    is_flat = refl;
    is_only = only_by_test session_a 0 5 refl;
    is_covered = record {
      is_touch = record { by = Read 0 0 0 5; stands = refl; is_touch = refl; is_late = refl };
      is_first = first_by_test session_a 0 5 refl;
      placement = 5;
      sees = refl;
      covers = omega arith;
      is_earlier = omega arith;
    };
  },
)

page_1 : IsRightEntry session_a 1 (Source 4 7 (Some first_1))
page_1 = (
  honest_by_tests session_a 1 refl refl refl,
  record {
    sent = 7 ∷ [];
    is_sent = refl;
    got = 6;
    content = 7 ∷ [];
    is_placed = refl;
    delivered = 4;
    is_delivery = refl;
    is_the_send = inl refl;
    is_flat = refl;
    is_only = only_by_test session_a 1 7 refl;
    is_covered = record {
      is_touch = record { by = Write 0 1 0 9; stands = refl; is_touch = refl; is_late = refl };
      is_first = first_by_test session_a 1 7 refl;
      placement = 7;
      sees = refl;
      covers = omega arith;
      is_earlier = omega arith;
    };
  },
)

abbrev certificate_a : Certified
certificate_a = record { version = One; size = Small; entries = Source 3 5 (Some first_0) ∷ Source 4 7 (Some first_1) ∷ []; runs = runs_a }

entries_a : (page : ℕ) (entry : Entry) → slice_get certificate_a.entries page ≡ Some entry → IsRightEntry session_a page entry
entries_a zero entry is = let e : Source 3 5 (Some first_0) ≡ entry = cc in subst (λ x. IsRightEntry session_a 0 x) e page_0
entries_a (suc zero) entry is = let e : Source 4 7 (Some first_1) ≡ entry = cc in subst (λ x. IsRightEntry session_a 1 x) e page_1
entries_a (suc (suc n)) entry is = absurd (cc)

right_a : IsRightCertificate session_a certificate_a
right_a = record { pages = refl; entries = entries_a; merging = merging_a }

limits_a : IsSession session_a
limits_a = record {
  size = tt;
  geometry = record { some_pages = omega arith; few_pages = omega arith; some_cells = omega arith; few_cells = omega arith; few_in_all = omega arith; own = record { pages = omega arith; cells = omega arith } };
  init = record {
    each = (record { page = omega arith; content = record { count = refl; each = (omega arith, tt) }; not_zeros = λ zeros. absurd (let e = zeros.0 in cc) }, tt);
    rising = λ k lt. absurd (omega arith);
  };
  few_guest = omega arith;
  few_source = omega arith;
  few_link = omega arith;
  few_lane = omega arith;
  few_pager = omega arith;
  own = each_few session_a (limits Small).records (omega arith) (omega arith) (omega arith) (omega arith) (omega arith);
  guest = ((omega arith, omega arith, omega arith, omega arith), (tt, (omega arith, ((omega arith, omega arith), (omega arith, ((omega arith, omega arith, omega arith, omega arith), (omega arith, ((omega arith, omega arith, omega arith, omega arith), ((omega arith, omega arith, omega arith, omega arith), tt)))))))));
  source = (omega arith, (tt, (omega arith, ((omega arith, record { count = refl; each = (omega arith, tt) }), ((omega arith, record { count = refl; each = (omega arith, tt) }), tt)))));
  link = (omega arith, (omega arith, (omega arith, (omega arith, tt))));
  lane = tt;
  pager = (omega arith, (tt, (omega arith, (omega arith, (omega arith, ((omega arith, omega arith, record { count = refl; each = (omega arith, tt) }), (omega arith, ((omega arith, omega arith, record { count = refl; each = (omega arith, tt) }), tt))))))));
}

pub certified_a : IsCertified session_a certificate_a
certified_a = record { is_session = limits_a; shape = shape_a; certificate = right_a }

pub from_source : CertifiedFromSource
from_source = record {
  session = session_a;
  certificate = certificate_a;
  is_certified = certified_a;
  page = 0;
  send = 3;
  place = 5;
  first = first_0;
  entry = refl;
}
