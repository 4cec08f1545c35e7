-- What windows tell of a session: where each page is in a clean one, no page has a fault.
use Rattle.std.proofs.Common.{◌≡◌, ◌↔◌, ℕ, ◌<◌, Bool, true, List, map, Option, Some, None, refl, sym, ap, ◌∙◌, subst, eq-eqb}
use Rattle.std.specs.Prelude.{slice_get}
use Rattle.std.specs.Option.{option_map}
use Rattle.std.proofs.lemmas.Option.{slice_get-map}
use Rattle.migration_types.specs.declared.records.LogName.TheVariants.{Guest, Source, Link, Lane, Pager}
use Rattle.migration_types.specs.declared.records.GuestRec.{GuestRec}
use Rattle.migration_types.specs.declared.records.GuestRec.TheVariants.{Read, Write, Release, Miss, Halt, Resume, See}
use Rattle.migration_types.specs.declared.records.SourceRec.{SourceRec}
use Rattle.migration_types.specs.declared.records.SourceRec.TheVariants.{Send}
use Rattle.migration_types.specs.declared.records.PagerRec.{PagerRec}
use Rattle.migration_types.specs.declared.records.PagerRec.TheVariants.{Place, Zero}
use Rattle.migration_types.specs.Sessions.{Recorded}
use Rattle.migration_types.specs.Receipts.{Name}
use Rattle.audit_model.specs.declared.reasons.PageReason.{PageReason}
use Rattle.audit_model.specs.declared.reasons.PageReason.TheVariants.{Read as WrongRead, Early, Given, Stale, Twice, Altered, Unfit, Over}
use Rattle.audit_model.specs.Fitting.{Fits}
use Rattle.audit_model.specs.Mergings.{HasMerging}
use Rattle.audit_model.specs.World.{IsSafe}
use Rattle.audit_model.specs.Shape.{IsRightShape}
use Rattle.audit_model.specs.Certificates.{is_access_of}
use Rattle.audit_model.specs.Faults.{GuestFault, SourceFault, PagerFault, if_fault, IsPageFault, HasNoPageFault}
use Rattle.audit_model.specs.Windows.{Numbers, IsNumbering, is_seen, keeps_source, keeps_guest, keeps_pager, kept_in, rank, marks, moved_to, new_guest, new_source, new_pager, new_name, is_marked, IsInWindow, window}
use Rattle.audit_model.specs.WindowLaws.{IsCleanThroughWindows}
use Rattle.audit_model.proofs.Ranks.{came_from}
use Rattle.audit_model.proofs.Fits.{guest_fits, source_fits, pager_fits}
use Rattle.audit_model.proofs.Clean.{fitting_safe}
use Rattle.audit_model.proofs.Unsafe.{fitting_exactly}
use Rattle.audit_model.proofs.WindowCells.{guest_mark}
use Rattle.audit_model.proofs.WindowFaults.{keeps_page_faults}

-- the record is kept in each window of this page, which the machine has
abbrev IsOfPage : Recorded → Name → ℕ → Type 0
IsOfPage s name page = (page < s.geometry.pages) × ((number : Numbers) → is_seen (number page) ≡ true → IsInWindow s number name)

-- a fault is of a page
module _ (s : Recorded) (fits : Fits s) where
  guest_fault_page : (reason : PageReason) (n : ℕ) (x : GuestRec) → slice_get s.guest n ≡ Some x → GuestFault s reason n x → (page : ℕ) × IsOfPage s (Guest, n) page
  guest_fault_page reason n x is h = at reason x is h
    where
      kept : (x : GuestRec) (page : ℕ) → slice_get s.guest n ≡ Some x → ((number : Numbers) (k : ℕ) → is_seen (number page) ≡ true → keeps_guest s number k x ≡ true) → (number : Numbers) → is_seen (number page) ≡ true → IsInWindow s number (Guest, n)
      kept x page is keeps number seen = ap is_marked (guest_mark s number n x is) ∙ keeps number n seen

      access : (x : GuestRec) → slice_get s.guest n ≡ Some x → (page : ℕ) → is_access_of page x ≡ true → (page : ℕ) × IsOfPage s (Guest, n) page
      access (Read c p d y) is page e = (p, ((guest_fits s fits n (Read c p d y) is).1.0, kept (Read c p d y) p is (λ number k seen. seen)))
      access (Write c p d y) is page e = (p, ((guest_fits s fits n (Write c p d y) is).1.0, kept (Write c p d y) p is (λ number k seen. seen)))
      access (Release c p) is page e = absurd (cc)
      access (Miss c p) is page e = absurd (cc)
      access Halt is page e = absurd (cc)
      access (Resume i) is page e = absurd (cc)
      access (See i) is page e = absurd (cc)

      at : (reason : PageReason) (x : GuestRec) → slice_get s.guest n ≡ Some x → GuestFault s reason n x → (page : ℕ) × IsOfPage s (Guest, n) page
      at WrongRead (Read c p d y) is h = access (Read c p d y) is p (eq-eqb p p refl)
      at Early x is h = access x is h.0 h.1.is_access
      at WrongRead x is h = absurd h
      at reason x is h = absurd h

  source_fault_page : (reason : PageReason) (n : ℕ) (x : SourceRec) → slice_get s.source n ≡ Some x → SourceFault s reason x → (page : ℕ) × IsOfPage s (Source, n) page
  source_fault_page reason n (Send p content) is h = (p, ((source_fits s fits n (Send p content) is).0, λ number seen. ap is_marked (slice_get-map (keeps_source s number) s.source n ∙ ap (option_map (keeps_source s number)) is) ∙ seen))
  source_fault_page Given n x is h = absurd h
  source_fault_page Stale n x is h = absurd h
  source_fault_page reason n x is h = absurd h

  pager_fault_page : (reason : PageReason) (n : ℕ) (x : PagerRec) → slice_get s.pager n ≡ Some x → PagerFault s reason n x → (page : ℕ) × IsOfPage s (Pager, n) page
  pager_fault_page reason n (Place p got content) is h = (p, ((pager_fits s fits n (Place p got content) is).0, λ number seen. ap is_marked (slice_get-map (keeps_pager s number) s.pager n ∙ ap (option_map (keeps_pager s number)) is) ∙ seen))
  pager_fault_page reason n (Zero p) is h = (p, ((pager_fits s fits n (Zero p) is).0, λ number seen. ap is_marked (slice_get-map (keeps_pager s number) s.pager n ∙ ap (option_map (keeps_pager s number)) is) ∙ seen))
  pager_fault_page Twice n x is h = absurd h
  pager_fault_page Altered n x is h = absurd h
  pager_fault_page Unfit n x is h = absurd h
  pager_fault_page Over n x is h = absurd h
  pager_fault_page reason n x is h = absurd h

  record_with : {A : Type 0} (fault : A → Type 0) (o : Option A) → if_fault fault o → (x : A) × (o ≡ Some x) × fault x
  record_with fault None h = absurd h
  record_with fault (Some x) h = (x, refl, h)

  fault_page : (reason : PageReason) (name : Name) → IsPageFault s reason name → (page : ℕ) × IsOfPage s name page
  fault_page reason (Guest, n) h = let f = record_with (GuestFault s reason n) (slice_get s.guest n) h in guest_fault_page reason n f.0 f.1 f.2
  fault_page reason (Source, n) h = let f = record_with (SourceFault s reason) (slice_get s.source n) h in source_fault_page reason n f.0 f.1 f.2
  fault_page reason (Link, n) h = absurd h
  fault_page reason (Lane, n) h = absurd h
  fault_page reason (Pager, n) h = let f = record_with (PagerFault s reason n) (slice_get s.pager n) h in pager_fault_page reason n f.0 f.1 f.2

  -- so a session is clean where each page is in a clean window
  pub windows_cover : IsCleanThroughWindows s → HasNoPageFault s
  windows_cover clean reason name fault =
      let f = fault_page reason name fault in
      let w = clean f.0 f.1.0 in
      let kept = f.1.1 w.number w.has_page in
      w.is_clean reason (new_name s w.number name) ((keeps_page_faults w.number w.is_numbering s w.count reason name kept).0 fault)

-- a fault of a window is one of the session
module _ (number : Numbers) (ours : IsNumbering number) (s : Recorded) (count : ℕ) where
  log_came : {A : Type 0} (new : A → A) (marks : List Bool) (log : List A) (fault : A → Type 0) (m : ℕ) → if_fault fault (slice_get (map new (kept_in marks log)) m) → (n : ℕ) × (slice_get marks n ≡ Some true) × (rank marks n ≡ m)
  log_came {A} new marks log fault m h = go (slice_get (map new (kept_in marks log)) m) refl h
    where
      go : (o : Option A) → slice_get (map new (kept_in marks log)) m ≡ o → if_fault fault o → (n : ℕ) × (slice_get marks n ≡ Some true) × (rank marks n ≡ m)
      go None is h = absurd h
      go (Some y) is h = let f = came_from new marks log m y is in (f.0, f.3, f.4)

  came : (reason : PageReason) (name : Name) → IsPageFault (window number count s) reason name → (old : ℕ) × IsInWindow s number (name.0, old) × (moved_to s number name.0 old ≡ name.1)
  came reason (Guest, m) h = let f = log_came (new_guest s number) (marks s number Guest) s.guest (GuestFault (window number count s) reason m) m h in (f.0, ap is_marked f.1, f.2)
  came reason (Source, m) h = let f = log_came (new_source s number) (marks s number Source) s.source (SourceFault (window number count s) reason) m h in (f.0, ap is_marked f.1, f.2)
  came reason (Link, m) h = absurd h
  came reason (Lane, m) h = absurd h
  came reason (Pager, m) h = let f = log_came (new_pager s number) (marks s number Pager) s.pager (PagerFault (window number count s) reason m) m h in (f.0, ap is_marked f.1, f.2)

  pub clean_through : HasNoPageFault s → HasNoPageFault (window number count s)
  clean_through clean reason name fault =
      let f = came reason name fault in
      let at = subst (λ k. IsPageFault (window number count s) reason (name.0, k)) (sym f.2) fault in
      clean reason (name.0, f.0) ((keeps_page_faults number ours s count reason (name.0, f.0) f.1).1 at)

-- the window of all pages shows each
clean_windows : (s : Recorded) → HasNoPageFault s → IsCleanThroughWindows s
clean_windows s clean page small = record {
  number = λ p. Some p;
  count = s.geometry.pages;
  is_numbering = one;
  has_page = refl;
  is_clean = clean_through (λ p. Some p) one s s.geometry.pages clean;
}
  where
    one : IsNumbering (λ p. Some p)
    one p r q e f = let same : Some p ≡ Some r = e ∙ sym f in cc

pub safe_through_windows : (s : Recorded) → Fits s → IsRightShape s → IsCleanThroughWindows s → IsSafe s
safe_through_windows s fits shape clean = fitting_safe s (windows_cover s fits clean) fits shape

pub exactly_through_windows : (s : Recorded) → Fits s → IsRightShape s → HasMerging s → IsSafe s ↔ IsCleanThroughWindows s
exactly_through_windows s fits shape has = (λ safe. clean_windows s ((fitting_exactly s fits shape has).0 safe), safe_through_windows s fits shape)
