-- The order that is given with a fault shows it.
use Rattle.std.proofs.Common.{◌≡◌, ℕ, ◌<◌, ◌≤◌, ◌⊎◌, inl, inr, true, false, List, length, Option, Some, None, Result, Ok, Err, refl, sym, ap, ◌∙◌, subst, arith, eqb-true}
use Rattle.std.specs.Prelude.{◌↔◌, slice_get, IfOk}
use Rattle.std.specs.declared.alloc.AllocError.{AllocError}
use Rattle.std.proofs.lemmas.Bool.{cases_lt}
use Rattle.std.proofs.lemmas.Option.{slice_get_within}
use Rattle.migration_types.specs.declared.records.LogName.{LogName}
use Rattle.migration_types.specs.declared.records.LogName.TheVariants.{Guest, Source, Link, Lane, Pager}
use Rattle.migration_types.specs.declared.records.GuestRec.{GuestRec}
use Rattle.migration_types.specs.declared.records.GuestRec.TheVariants.{Read, Write, Release, Miss, Halt, Resume, See}
use Rattle.migration_types.specs.declared.records.SourceRec.{SourceRec}
use Rattle.migration_types.specs.declared.records.PagerRec.{PagerRec}
use Rattle.migration_types.specs.declared.cert.Run.{Run}
use Rattle.migration_types.specs.Certs.{AreRuns}
use Rattle.migration_types.specs.Receipts.{Name}
use Rattle.migration_types.specs.Sessions.{Recorded, IsSession}
use Rattle.audit_model.specs.declared.reasons.PageReason.{PageReason}
use Rattle.audit_model.specs.declared.reasons.PageReason.TheVariants.{Read as WrongRead, Early, Given, Stale, Twice, Altered, Unfit, Over}
use Rattle.audit_model.specs.Names.{log_length, if_there}
use Rattle.audit_model.specs.Mergings.{IsMerging, HasMerging, Cursors, spelled}
use Rattle.audit_model.specs.World.{IsSafe}
use Rattle.audit_model.specs.Shape.{IsRightShape, is_placement_of, earlier}
use Rattle.audit_model.specs.Certificates.{is_access_of}
use Rattle.audit_model.specs.Faults.{IsEarly, GuestFault, SourceFault, PagerFault, if_fault, IsPageFault}
use Rattle.audit_model.specs.Delayed.{rearranged, IsFirstPlacement, IsDelayedOrder}
use Rattle.audit_model.specs.Laws.{IsFaultless, FaultsBreak, DelayedBreaks, DelayedOver, UnplacedBreaks, BreaksAt, SafeExactlyIfClean}
use Rattle.audit_model.proofs.Fits.{session_fits}
use Rattle.audit_model.proofs.History.{earlier_true}
use Rattle.audit_model.proofs.Clean.{false_if_not_true, clash}
use Rattle.migration_types.specs.inner.Widest.{are_widest}
use Rattle.cert_maker.specs.Orders.{AreFoundRuns}
use Rattle.audit_report.specs.declared.report.Report.{Report}
use Rattle.audit_report.specs.declared.report.Report.TheVariants.{Clean, Shape, Knot, Faulty}
use Rattle.audit_report.specs.inner.Cuts.{IsCutFor}
use Rattle.audit_report.specs.Reports.{used_by, HasNoPlacement, IsEarlyFor, IsShownWith, IsUndelayed, ShowsFault, IsReport, IsClean, ReportFits}

-- ---- placements

pub none_placed : (s : Recorded) (page n : ℕ) → length s.pager ≤ n → earlier (is_placement_of page) s.pager n ≡ false → HasNoPlacement s page
none_placed s page n le none m r is = false_if_not_true _ (λ e. clash _ (earlier_true (is_placement_of page) s.pager m n r is e (omega (arith, slice_get_within s.pager m r is))) none)

first_below : (s : Recorded) (page m n : ℕ) → IsFirstPlacement s page m → IsFirstPlacement s page n → m ≤ n
first_below s page m n x y = go (cases_lt n m)
  where
    go : (n < m) ⊎ (m ≤ n) → m ≤ n
    go (inl lt) = clash _ (earlier_true (is_placement_of page) s.pager n m y.by y.stands y.places lt) x.is_first
    go (inr le) = le

-- ---- breaking

used_access : (r : GuestRec) (page : ℕ) → is_access_of page r ≡ true → used_by r ≡ Some page
used_access (Read v p c x) page e = ap (λ q. Some q) (eqb-true p page e)
used_access (Write v p c x) page e = ap (λ q. Some q) (eqb-true p page e)
used_access (Release v p) page e = absurd (cc)
used_access (Miss v p) page e = absurd (cc)
used_access Halt page e = absurd (cc)
used_access (Resume k) page e = absurd (cc)
used_access (See k) page e = absurd (cc)

module _ (s : Recorded) (order : List Name) (merging : IsMerging s order) where
  -- a fault that is not shown by a delayed order breaks in each merging
  undelayed_breaks : FaultsBreak s → UnplacedBreaks s → (reason : PageReason) (name : Name) → IsPageFault s reason name → IsUndelayed s reason name → BreaksAt s order name
  undelayed_breaks faults unplaced WrongRead name f none = faults order merging WrongRead name (λ e. cc) (λ e. cc) f
  undelayed_breaks faults unplaced Given name f none = faults order merging Given name (λ e. cc) (λ e. cc) f
  undelayed_breaks faults unplaced Stale name f none = faults order merging Stale name (λ e. cc) (λ e. cc) f
  undelayed_breaks faults unplaced Twice name f none = faults order merging Twice name (λ e. cc) (λ e. cc) f
  undelayed_breaks faults unplaced Altered name f none = faults order merging Altered name (λ e. cc) (λ e. cc) f
  undelayed_breaks faults unplaced Unfit name f none = faults order merging Unfit name (λ e. cc) (λ e. cc) f
  undelayed_breaks faults unplaced Over name f none = absurd (none.is_not_over refl)
  undelayed_breaks faults unplaced Early (Guest, n) f none = go (slice_get s.guest n) refl f
    where
      go : (o : Option GuestRec) → slice_get s.guest n ≡ o → if_fault (GuestFault s Early n) o → BreaksAt s order (Guest, n)
      go None is f = absurd f
      go (Some r) is f = unplaced order merging n f.0 r is f.1 (none.unplaced f.0 refl (ap (λ (o : Option GuestRec). if_there used_by o) is ∙ used_access r f.0 f.1.is_access))
  undelayed_breaks faults unplaced Early (Source, n) f none = absurd (go (slice_get s.source n) f)
    where
      go : (o : Option SourceRec) → if_fault (SourceFault s Early) o → ⊥
      go None f = f
      go (Some r) f = f
  undelayed_breaks faults unplaced Early (Link, n) f none = absurd f
  undelayed_breaks faults unplaced Early (Lane, n) f none = absurd f
  undelayed_breaks faults unplaced Early (Pager, n) f none = absurd (go (slice_get s.pager n) f)
    where
      go : (o : Option PagerRec) → if_fault (PagerFault s Early n) o → ⊥
      go None f = f
      go (Some r) f = f

  -- and an early access to a page that is placed, where the placement is delayed
  early_shows : DelayedBreaks s → (reason : PageReason) (name : Name) (place : ℕ) → IsPageFault s reason name → IsEarlyFor s reason name place → (delayed : List Name) → IsDelayedOrder s order (Pager, place) delayed → IsMerging s delayed × BreaksAt s delayed name
  early_shows breaks reason (Guest, n) place f early delayed late = go (slice_get s.guest n) refl (subst (λ (r : PageReason). IsPageFault s r (Guest, n)) early.is_early f) early.uses
    where
      go : (o : Option GuestRec) → slice_get s.guest n ≡ o → if_fault (GuestFault s Early n) o → if_there used_by o ≡ Some early.page → IsMerging s delayed × BreaksAt s delayed (Guest, n)
      go None is f uses = absurd f
      go (Some r) is f uses =
          let same : f.0 ≡ early.page = let e : Some f.0 ≡ Some early.page = sym (used_access r f.0 f.1.is_access) ∙ uses in cc in
          breaks order merging n early.page place r is (subst (λ p. IsEarly s n r p) same f.1) early.is_first delayed late
  early_shows breaks reason (Source, n) place f early delayed late = absurd (let e = early.uses in cc)
  early_shows breaks reason (Link, n) place f early delayed late = absurd (let e = early.uses in cc)
  early_shows breaks reason (Lane, n) place f early delayed late = absurd (let e = early.uses in cc)
  early_shows breaks reason (Pager, n) place f early delayed late = absurd (let e = early.uses in cc)

  -- and a placement over a release, where it is delayed itself
  delayed_shows : DelayedBreaks s → DelayedOver s → (reason : PageReason) (name : Name) (place : ℕ) → IsPageFault s reason name → IsShownWith s reason name place → (delayed : List Name) → IsDelayedOrder s order (Pager, place) delayed → IsMerging s delayed × BreaksAt s delayed name
  delayed_shows breaks over reason name place f (inl early) delayed late = early_shows breaks reason name place f early delayed late
  delayed_shows breaks over reason name place f (inr at) delayed late =
      let own : IsPageFault s Over (Pager, place) = subst (λ (n : Name). IsPageFault s Over n) at.is_itself (subst (λ (r : PageReason). IsPageFault s r name) at.is_over f) in
      subst (λ (n : Name). IsMerging s delayed × BreaksAt s delayed n) (sym at.is_itself) (over order merging place own delayed late)

-- ---- the order of a fault

-- where a fault is shown with a placement the found order is not the one that is given
not_both : (s : Recorded) (reason : PageReason) (name : Name) (place : ℕ) → IsUndelayed s reason name → IsShownWith s reason name place → ⊥
not_both s reason name place none (inl early) = clash _ early.is_first.places (none.unplaced early.page early.is_early early.uses place early.is_first.by early.is_first.stands)
not_both s reason name place none (inr at) = none.is_not_over at.is_over

-- the found order shows a fault that needs no delay
pub found_shows : (s : Recorded) (reason : PageReason) (name : Name) (runs : List Run) → FaultsBreak s → UnplacedBreaks s → AreFoundRuns s runs → IsPageFault s reason name → IsUndelayed s reason name → ShowsFault s reason name runs
found_shows s reason name runs faults unplaced found f none = record {
  are_runs = found.are_runs;
  is_merging = found.is_found.is_merging;
  breaks = undelayed_breaks s (spelled runs) found.is_found.is_merging faults unplaced reason name f none;
  is_order = record {
    found = spelled runs;
    is_found = found.is_found;
    delayed = λ place shown. absurd (not_both s reason name place none shown);
    undelayed = λ n. refl;
  };
}

-- and the delayed order one that is shown with a placement
delayed_run : (s : Recorded) (reason : PageReason) (name : Name) (place : ℕ) (d : Cursors) (runs order : List Run) → DelayedBreaks s → DelayedOver s → AreFoundRuns s runs → IsPageFault s reason name → IsShownWith s reason name place → IsCutFor s (Pager, place) d → AreRuns s.version s.geometry.size order → spelled order ≡ rearranged d (spelled runs) → ShowsFault s reason name order
delayed_run s reason name place d runs order breaks over found f shown cut are is =
    let late : IsDelayedOrder s (spelled runs) (Pager, place) (spelled order) = record { cut = d; is_above = cut.is_above; is_delayed = cut.is_delayed; is = is } in
    let fails = delayed_shows s (spelled runs) found.is_found.is_merging breaks over reason name place f shown (spelled order) late in
    record {
      are_runs = are;
      is_merging = fails.0;
      breaks = fails.1;
      is_order = record {
        found = spelled runs;
        is_found = found.is_found;
        delayed = λ other also. subst (λ p. IsDelayedOrder s (spelled runs) (Pager, p) (spelled order)) (same_place other shown also) late;
        undelayed = λ none. absurd (not_both s reason name place none shown);
      };
    }
  where
    -- a page has one first placement
    one : (page other : ℕ) → IsFirstPlacement s page place → IsFirstPlacement s page other → place ≡ other
    one page other a b = let low = first_below s page place other a b in let high = first_below s page other place b a in omega arith

    -- and a fault one that it is shown with
    same_place : (other : ℕ) → IsShownWith s reason name place → IsShownWith s reason name other → place ≡ other
    same_place other (inl early) (inl also) =
        let page : early.page ≡ also.page = let e : Some early.page ≡ Some also.page = sym early.uses ∙ also.uses in cc in
        one also.page other (subst (λ p. IsFirstPlacement s p place) page early.is_first) also.is_first
    same_place other (inl early) (inr at) = absurd (let e : Early ≡ Over = sym early.is_early ∙ at.is_over in cc)
    same_place other (inr at) (inl also) = absurd (let e : Early ≡ Over = sym also.is_early ∙ at.is_over in cc)
    same_place other (inr at) (inr also) = ap (λ (n : Name). n.1) (sym at.is_itself ∙ also.is_itself)

pub delayed_shown : (s : Recorded) (reason : PageReason) (name : Name) (place : ℕ) (d : Cursors) (runs : List Run) (r : Result (List Run) AllocError) → DelayedBreaks s → DelayedOver s → AreFoundRuns s runs → IsPageFault s reason name → IsShownWith s reason name place → IsCutFor s (Pager, place) d → IfOk r (λ order. AreRuns s.version s.geometry.size order) → IfOk r (λ order. spelled order ≡ rearranged d (spelled runs)) → IfOk r (λ order. ShowsFault s reason name order)
delayed_shown s reason name place d runs (Ok order) breaks over found f shown cut are is = delayed_run s reason name place d runs order breaks over found f shown cut are is
delayed_shown s reason name place d runs (Err e) breaks over found f shown cut are is = tt

-- a record with a fault is there
pub fault_there : (s : Recorded) (reason : PageReason) (log : LogName) (n : ℕ) → IsPageFault s reason (log, n) → n < log_length s log
fault_there s reason Guest n f = go (slice_get s.guest n) refl f
  where
    go : (o : Option GuestRec) → slice_get s.guest n ≡ o → if_fault (GuestFault s reason n) o → n < length s.guest
    go None is f = absurd f
    go (Some r) is f = slice_get_within s.guest n r is
fault_there s reason Source n f = go (slice_get s.source n) refl f
  where
    go : (o : Option SourceRec) → slice_get s.source n ≡ o → if_fault (SourceFault s reason) o → n < length s.source
    go None is f = absurd f
    go (Some r) is f = slice_get_within s.source n r is
fault_there s reason Link n f = absurd f
fault_there s reason Lane n f = absurd f
fault_there s reason Pager n f = go (slice_get s.pager n) refl f
  where
    go : (o : Option PagerRec) → slice_get s.pager n ≡ o → if_fault (PagerFault s reason n) o → n < length s.pager
    go None is f = absurd f
    go (Some r) is f = slice_get_within s.pager n r is

-- ---- reports

module _ (s : Recorded) where
  pub safe_if_clean : ((t : Recorded) → IsFaultless t → IsSafe t) → IsSession s → (report : Report) → IsReport s report → IsClean report → IsSafe s
  safe_if_clean law fits (Clean cert) is clean = law s (record { is_session = fits; shape = is.0; clean = is.1.has_no_fault })
  safe_if_clean law fits (Shape fault) is clean = absurd clean
  safe_if_clean law fits (Knot left found) is clean = absurd clean
  safe_if_clean law fits (Faulty line fault order many) is clean = absurd clean

  clean_if_safe : SafeExactlyIfClean s → IsSession s → (report : Report) → IsReport s report → IsRightShape s → HasMerging s → IsSafe s → IsClean report
  clean_if_safe law fits (Clean cert) is shape has safe = tt
  clean_if_safe law fits (Shape fault) is shape has safe = absurd (clash _ (shape fault.reason (fault.log, fault.place)) is.is_first.is_wrong)
  clean_if_safe law fits (Knot left found) is shape has safe = absurd (is.1.has_no_merging has)
  clean_if_safe law fits (Faulty line fault order many) is shape has safe = absurd ((law (session_fits s fits) shape has).0 safe fault.reason (fault.log, fault.place) is.1.is_first.is_fault)

  pub safe_exactly : ((t : Recorded) → IsFaultless t → IsSafe t) → SafeExactlyIfClean s → IsSession s → (report : Report) → IsReport s report → IsRightShape s → HasMerging s → IsSafe s ↔ IsClean report
  safe_exactly clean law fits report is shape has = (clean_if_safe law fits report is shape has, safe_if_clean clean fits report is)

  -- the text of a report's runs has room for them
  pub fits_text : (report : Report) → IsReport s report → ReportFits report
  fits_text (Clean cert) is = tt
  fits_text (Shape fault) is = tt
  fits_text (Knot left found) is = tt
  fits_text (Faulty line fault order many) is = are_widest s.version s.geometry.size order is.1.shows.are_runs
