-- Each page's first fault in logs that are cut to a front.
use Rattle.std.proofs.Common.{◌≡◌, ◌≢◌, ℕ, ◌<◌, ◌≤◌, inl, inr, List, length, take, Option, Some, None, refl, sym, ap, ◌∙◌, subst, arith}
use Rattle.std.specs.Prelude.{slice_get}
use Rattle.std.proofs.lemmas.Option.{slice_get_within}
use Rattle.migration_types.specs.declared.records.LogName.{LogName}
use Rattle.migration_types.specs.declared.records.LogName.TheVariants.{Guest, Source, Link, Lane, Pager}
use Rattle.migration_types.specs.Paged.{guest_page, source_page, pager_page}
use Rattle.migration_types.specs.Receipts.{Name, logs, log_index}
use Rattle.migration_types.specs.Sessions.{Recorded, log_length}
use Rattle.audit_model.specs.declared.reasons.PageReason.{PageReason}
use Rattle.audit_model.specs.declared.reasons.PageReason.TheVariants.{Read as WrongRead, Early, Given, Stale, Twice, Altered, Unfit, Over}
use Rattle.audit_model.specs.Names.{if_there}
use Rattle.audit_model.specs.Faults.{IsPageFault}
use Rattle.audit_model.specs.Mergings.{Cursors}
use Rattle.audit_model.specs.Reasons.{page_rank}
use Rattle.audit_model.proofs.Cuts.{log_there}
use Rattle.page_facts.specs.PageFaults.{page_at, Precedes, IsFaultless, IsLeastReason, IsClean}
use Rattle.page_facts.proofs.LeastReason.{most_rank}
use Rattle.kept_faults.specs.FrontLaws.{IsInFront, HasHalt, HasTouch, KeepsFirstFaults, FirstFaultsWere}
use Rattle.recorder_files.specs.Fronts.{IsFront, cut_to}
use Rattle.kept_faults.proofs.Taken.{taken_at, taken_is}
use Rattle.kept_faults.proofs.FrontFaults.{keeps_at, faults_were}

-- ---- names

pub same_log_by : (l m : LogName) → log_index l ≡ log_index m → l ≡ m
same_log_by l m e =
    let at : Some l ≡ Some m = sym (log_there l) ∙ ap (λ n. slice_get logs n) e ∙ log_there m in
    cc

paged_within : {A : Type 0} (page_of : A → Option ℕ) (log : List A) (n p : ℕ) → if_there page_of (slice_get log n) ≡ Some p → n < length log
paged_within {A} page_of log n p e = go (slice_get log n) refl e
  where
    go : (o : Option A) → slice_get log n ≡ o → if_there page_of o ≡ Some p → n < length log
    go None is e = absurd (cc)
    go (Some x) is e = slice_get_within log n x is

pub page_within : (s : Recorded) (name : Name) (p : ℕ) → page_at s name ≡ Some p → name.1 < log_length s name.0
page_within s (Guest, n) p e = paged_within guest_page s.guest n p e
page_within s (Source, n) p e = paged_within source_page s.source n p e
page_within s (Link, n) p e = absurd (cc)
page_within s (Lane, n) p e = absurd (cc)
page_within s (Pager, n) p e = paged_within pager_page s.pager n p e

paged_taken : {A : Type 0} (page_of : A → Option ℕ) (k : ℕ) (log : List A) (n p : ℕ) → if_there page_of (slice_get (take k log) n) ≡ Some p → (n < k) × (if_there page_of (slice_get log n) ≡ Some p)
paged_taken {A} page_of k log n p e = go (slice_get (take k log) n) refl e
  where
    go : (o : Option A) → slice_get (take k log) n ≡ o → if_there page_of o ≡ Some p → (n < k) × (if_there page_of (slice_get log n) ≡ Some p)
    go None is e = absurd (cc)
    go (Some x) is e = let r = taken_is k log n x is in (r.0, ap (if_there page_of) r.1 ∙ e)

module _ (s : Recorded) (c : Cursors) where
  pub same_page : (name : Name) → IsInFront c name → page_at (cut_to c s) name ≡ page_at s name
  same_page (Guest, n) lt = ap (if_there guest_page) (taken_at (c Guest) s.guest n lt)
  same_page (Source, n) lt = ap (if_there source_page) (taken_at (c Source) s.source n lt)
  same_page (Link, n) lt = refl
  same_page (Lane, n) lt = refl
  same_page (Pager, n) lt = ap (if_there pager_page) (taken_at (c Pager) s.pager n lt)

  pub page_was : (name : Name) (p : ℕ) → page_at (cut_to c s) name ≡ Some p → IsInFront c name × (page_at s name ≡ Some p)
  page_was (Guest, n) p e = paged_taken guest_page (c Guest) s.guest n p e
  page_was (Source, n) p e = paged_taken source_page (c Source) s.source n p e
  page_was (Link, n) p e = absurd (cc)
  page_was (Lane, n) p e = absurd (cc)
  page_was (Pager, n) p e = paged_taken pager_page (c Pager) s.pager n p e

module _ (s : Recorded) (c : Cursors) (front : IsFront s c) (halt : HasHalt s c) where
  -- a record without a fault has none in the front
  still_none : (name : Name) → IsFaultless s name → IsFaultless (cut_to c s) name
  still_none name none r f = none r (faults_were s c front halt r name f).1

  pub still_clean_page : (page : ℕ) → IsClean s page → IsClean (cut_to c s) page
  still_clean_page page clean = record { each = λ other name among mine. still_none name (clean.each other name among (page_was s c name other mine).1) }

  pub keeps_first_faults : KeepsFirstFaults s c
  keeps_first_faults page f first still =
      let name : Name = (f.log, f.place) in
      let inside = (faults_were s c front halt f.reason name still).0 in
      record {
        is_among = first.is_among;
        is_of = same_page s c name inside ∙ first.is_of;
        is_reason = record { is_fault = still; is_least = λ r f. first.is_reason.is_least r (faults_were s c front halt r name f).1 };
        is_first = λ other third among mine before. still_none third (first.is_first other third among (page_was s c third other mine).1 before);
      }

  -- the least reason in the front was the least
  pub reason_was : (name : Name) (r : PageReason) → IsInFront c name → IsLeastReason (cut_to c s) name r → IsLeastReason s name r
  reason_was name r inside is = record { is_fault = (faults_were s c front halt r name is.is_fault).1; is_least = least }
    where
      kept : (t : PageReason) → t ≢ Over → IsPageFault s t name → page_rank r ≤ page_rank t
      kept t not_over f = is.is_least t ((keeps_at s c front halt t name inside (λ over is. absurd (not_over over))).0 f)

      least : (t : PageReason) → IsPageFault s t name → page_rank r ≤ page_rank t
      least WrongRead f = kept WrongRead (λ e. absurd (cc)) f
      least Early f = kept Early (λ e. absurd (cc)) f
      least Given f = kept Given (λ e. absurd (cc)) f
      least Stale f = kept Stale (λ e. absurd (cc)) f
      least Twice f = kept Twice (λ e. absurd (cc)) f
      least Altered f = kept Altered (λ e. absurd (cc)) f
      least Unfit f = kept Unfit (λ e. absurd (cc)) f
      least Over f = most_rank r

  all_touches : length s.guest ≤ c Guest → (page : ℕ) → HasTouch s c page
  all_touches all page n late = let within = slice_get_within s.guest n late.by late.stands in (n, late, omega (arith, within, all))

  -- with the whole of the guest's log above the pager's, a record of the front has no other faults
  was_none : (name : Name) → IsInFront c name → (name.0 ≡ Pager → length s.guest ≤ c Guest) → IsFaultless (cut_to c s) name → IsFaultless s name
  was_none name inside all none r f = none r ((keeps_at s c front halt r name inside (λ over is page of. all_touches (all is) page)).0 f)

  pub first_faults_were : FirstFaultsWere s c
  first_faults_were page f first above =
      let was = page_was s c (f.log, f.place) f.page first.is_of in
      record {
        is_among = first.is_among;
        is_of = was.1;
        is_reason = reason_was (f.log, f.place) f.reason was.0 first.is_reason;
        is_first = λ other name among mine before.
            let inside = there name other mine was.0 before in
            was_none name inside (λ is. above Guest (high name is before)) (first.is_first other name among (same_page s c name inside ∙ mine) before);
      }
    where
      there : (name : Name) (other : ℕ) → page_at s name ≡ Some other → f.place < c f.log → Precedes name (f.log, f.place) → IsInFront c name
      there name other mine at (inl lt) = let all = above name.0 lt in let within = page_within s name other mine in omega (arith, all, within)
      there name other mine at (inr both) =
          let lt = both.1 in
          subst (λ l. name.1 < c l) (sym (same_log_by name.0 f.log both.0)) (omega (arith, lt, at))

      high : (name : Name) → name.0 ≡ Pager → Precedes name (f.log, f.place) → 0 < log_index f.log
      high name is (inl lt) = let e : log_index name.0 ≡ 4 = ap log_index is in omega (arith, lt, e)
      high name is (inr both) = let e : log_index name.0 ≡ 4 = ap log_index is in let g = both.0 in omega (arith, g, e)
