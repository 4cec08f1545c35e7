-- From entries to a certificate.
use Rattle.std.proofs.Common.{◌≡◌, ℕ, suc, ◌≤◌, Bool, true, false, List, [], ◌∷◌, length, get_or, Option, Some, None, refl, sym, ap, ◌∙◌, subst, arith}
use Rattle.std.specs.Prelude.{slice_get, if◌then◌else◌}
use Rattle.std.specs.List.{AllByRecursion, list_any}
use Rattle.std.proofs.lemmas.Option.{slice_get_within, slice_get-get_or, get_or_from_slice_get}
use Rattle.std.proofs.lemmas.List.Folds.{list_any_at}
use Rattle.migration_types.specs.declared.cert.Run.{Run}
use Rattle.migration_types.specs.declared.cert.First.{First}
use Rattle.migration_types.specs.declared.cert.Entry.{Entry}
use Rattle.migration_types.specs.declared.cert.Entry.TheVariants.{Nothing, Fresh, Source, Balloon}
use Rattle.migration_types.specs.declared.version.Version.{Version}
use Rattle.migration_types.specs.declared.version.Version.TheVariants.{One, Two}
use Rattle.migration_types.specs.declared.size.Size.{Size}
use Rattle.migration_types.specs.declared.size.Size.TheVariants.{Small, Large}
use Rattle.migration_types.specs.Limits.{HasSize, limits}
use Rattle.migration_types.specs.declared.records.LogName.TheVariants.{Guest as GuestLog, Source as SourceLog, Pager as PagerLog}
use Rattle.migration_types.specs.Certs.{Certified, FirstFits, EntryFits, AreRuns, IsCert}
use Rattle.migration_types.specs.Sessions.{Recorded, IsSession, IsNumber}
use Rattle.audit_model.specs.Mergings.{IsMerging, spelled}
use Rattle.audit_model.specs.Shape.{IsRightShape}
use Rattle.audit_model.specs.Laws.{FirstVersionIsPlain}
use Rattle.audit_model.specs.Certificates.{is_fresh, IsCovered, IsRightEntry, IsRightCertificate}
use Rattle.audit_model.proofs.Walked.{merging_is_walk}
use Rattle.cert_maker.specs.Made.{IsMade, HasBarePage}
use Rattle.cert_maker.specs.inner.Entries.{AreMade, version_for}
use Rattle.cert_maker.proofs.Fitting.{fitting_runs, take_records}

-- ---- limits

is_number : {A : Type 0} (size : Size) (log : List A) (n : ℕ) (r : A) → length log ≤ (limits size).records → slice_get log n ≡ Some r → IsNumber size n
is_number size log n r few is = let lt = slice_get_within log n r is in omega arith

first_fits : (s : Recorded) (page place : ℕ) (first : Option First) → IsSession s → IsCovered s page place first → FirstFits s.geometry.size first
first_fits s page place None fits covered = tt
first_fits s page place (Some first) fits covered = (is_number s.geometry.size s.guest first.access _ (fits.own GuestLog) covered.is_touch.stands, is_number s.geometry.size s.guest first.see _ (fits.own GuestLog) covered.sees)

entry_fits : (s : Recorded) (version : Version) (page : ℕ) (entry : Entry) → IsSession s → IsRightEntry s page entry → (is_fresh entry ≡ true → version ≡ Two) → EntryFits version s.geometry.size entry
entry_fits s version page Nothing fits right two = tt
entry_fits s version page (Fresh first) fits right two = subst (λ (v : Version). EntryFits v s.geometry.size (Fresh first)) (sym (two refl)) (is_number s.geometry.size s.guest first _ (fits.own GuestLog) right.1.is_release)
entry_fits s version page (Source send place first) fits right two = (is_number s.geometry.size s.source send _ (fits.own SourceLog) right.1.is_sent, is_number s.geometry.size s.pager place _ (fits.own PagerLog) right.1.is_placed, first_fits s page place first fits right.1.is_covered)
entry_fits s version page (Balloon place first) fits right two = (is_number s.geometry.size s.pager place _ (fits.own PagerLog) right.1.is_zeroed, first_fits s page place first fits right.1.is_covered)

all_from : (P : Entry → Type 0) (entries : List Entry) → ((page : ℕ) (entry : Entry) → slice_get entries page ≡ Some entry → P entry) → AllByRecursion P entries
all_from P [] each = tt
all_from P (x ∷ xs) each = (each 0 x refl, all_from P xs (λ page entry is. each (suc page) entry is))

-- ---- the version

-- some entry of the list is fresh, or none is
fresh_at : (entries : List Entry) → list_any is_fresh entries ≡ true → (page : ℕ) × (first : ℕ) × (slice_get entries page ≡ Some (Fresh first))
fresh_at [] e = absurd cc
fresh_at (Nothing ∷ xs) e = let f = fresh_at xs e in (suc f.0, f.1, f.2)
fresh_at (Fresh first ∷ xs) e = (0, first, refl)
fresh_at (Source send place first ∷ xs) e = let f = fresh_at xs e in (suc f.0, f.1, f.2)
fresh_at (Balloon place first ∷ xs) e = let f = fresh_at xs e in (suc f.0, f.1, f.2)

any_fresh : (entries : List Entry) (page : ℕ) (entry : Entry) → slice_get entries page ≡ Some entry → is_fresh entry ≡ true → list_any is_fresh entries ≡ true
any_fresh entries page entry is fresh = list_any_at is_fresh entries page entry (slice_get_within entries page entry is) (ap is_fresh (get_or_from_slice_get entries page entry entry is) ∙ fresh)

two_where_fresh : (version : Version) (entries : List Entry) → list_any is_fresh entries ≡ true → version_for version entries ≡ Two
two_where_fresh version entries e = ap (λ (b : Bool). if b then Two else version) e

of_right_shape : (s : Recorded) (entries : List Entry) → FirstVersionIsPlain s → AreMade s entries → IsRightShape s → version_for s.version entries ≡ s.version
of_right_shape s entries plain made shape = by_fresh (list_any is_fresh entries) refl
  where
    by_version : (page first : ℕ) → slice_get entries page ≡ Some (Fresh first) → (version : Version) → s.version ≡ version → Two ≡ version
    by_version page first is One e = absurd ((plain e shape).none_fresh page first (made.each page (Fresh first) is).right)
    by_version page first is Two e = refl

    by_fresh : (b : Bool) → list_any is_fresh entries ≡ b → version_for s.version entries ≡ s.version
    by_fresh true e = let f = fresh_at entries e in two_where_fresh s.version entries e ∙ by_version f.0 f.1 f.2 s.version refl
    by_fresh false e = ap (λ (b : Bool). if b then Two else s.version) e

-- the runs of a merging fit the session's version, and so the certificate's
made_runs : (s : Recorded) (version : Version) (entries : List Entry) (runs : List Run) → version ≡ version_for s.version entries → IsSession s → IsMerging s (spelled runs) → AreRuns Two s.geometry.size runs → AreRuns version s.geometry.size runs
made_runs s version entries runs is_version limits merging fits = subst (λ (v : Version). AreRuns v s.geometry.size runs) (sym is_version) (go (list_any is_fresh entries))
  where
    own : AreRuns s.version s.geometry.size runs
    own = fitting_runs s runs limits (take_records Two s.geometry.size runs fits) fits.alternate (λ log. let all = (merging_is_walk s (spelled runs) merging).1 log in omega (arith, all))

    go : (b : Bool) → AreRuns (if b then Two else s.version) s.geometry.size runs
    go true = fits
    go false = own

-- a size that a session's version has, the certificate's version has too
made_size : (s : Recorded) (version : Version) (entries : List Entry) → version ≡ version_for s.version entries → IsSession s → HasSize version s.geometry.size
made_size s version entries is_version limits = subst (λ (v : Version). HasSize v s.geometry.size) (sym is_version) (go (list_any is_fresh entries))
  where
    in_second : (size : Size) → HasSize Two size
    in_second Small = tt
    in_second Large = tt

    go : (b : Bool) → HasSize (if b then Two else s.version) s.geometry.size
    go true = in_second s.geometry.size
    go false = limits.size

pub made_cert : (s : Recorded) (version : Version) (entries : List Entry) (runs : List Run) → version ≡ version_for s.version entries → IsSession s → AreMade s entries → IsMerging s (spelled runs) → AreRuns Two s.geometry.size runs → IsCert (record { version = version; size = s.geometry.size; entries = entries; runs = runs })
made_cert s version entries runs is_version limits made merging fits = record {
  size = made_size s version entries is_version limits;
  some_pages = let some = limits.geometry.some_pages in let e = made.pages in omega arith;
  few_pages = let few = limits.geometry.few_pages in let e = made.pages in omega arith;
  own = let few = limits.geometry.own.pages in let e = made.pages in omega arith;
  entries = all_from (EntryFits version s.geometry.size) entries (λ page entry is. entry_fits s version page entry limits (made.each page entry is).right (λ fresh. is_version ∙ two_where_fresh s.version entries (any_fresh entries page entry is fresh)));
  runs = made_runs s version entries runs is_version limits merging fits;
}

-- ---- the answers

pub is_made : (s : Recorded) (version : Version) (entries : List Entry) (runs : List Run) (cert : Certified) → FirstVersionIsPlain s → version ≡ version_for s.version entries → AreMade s entries → IsMerging s (spelled runs) → cert ≡ record { version = version; size = s.geometry.size; entries = entries; runs = runs } → IsMade s runs cert
is_made s version entries runs cert plain is_version made merging e = subst (λ (x : Certified). IsMade s runs x) (sym e) whole
  where
    whole : IsMade s runs (record { version = version; size = s.geometry.size; entries = entries; runs = runs })
    whole = record {
      is_right = record { pages = made.pages; entries = λ page entry is. (made.each page entry is).right; merging = merging };
      has_runs = refl;
      has_size = refl;
      has_version = λ shape. is_version ∙ of_right_shape s entries plain made shape;
      earliest = λ page entry is. (made.each page entry is).earliest;
    }

pub bare_refused : (s : Recorded) (runs : List Run) → HasBarePage s → (version : Version) (size : Size) (entries : List Entry) → IsRightCertificate s (record { version = version; size = size; entries = entries; runs = runs }) → ⊥
bare_refused s runs bare version size entries right =
    let within = bare.within in
    let pages = right.pages in
    let is = slice_get-get_or entries bare.page Nothing (omega arith) in
    bare.is_bare (get_or entries bare.page Nothing) (right.entries bare.page (get_or entries bare.page Nothing) is)
