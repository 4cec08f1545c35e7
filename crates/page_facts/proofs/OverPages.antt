-- The first fault of one page more, and of all pages.
use Rattle.std.proofs.Common.{◌≡◌, ℕ, ◌+◌, ◌<◌, ◌≤◌, ◌⊎◌, inl, inr, Bool, true, false, cond, Option, Some, None, refl, sym, ap, subst, arith, List}
use Rattle.std.specs.Prelude.{slice_get, IfSome}
use Rattle.std.specs.Option.{MatchOption}
use Rattle.std.proofs.lemmas.Bool.{cases_lt}
use Rattle.migration_types.specs.declared.records.LogName.{LogName}
use Rattle.migration_types.specs.declared.records.LogName.TheVariants.{Guest, Source, Link, Lane, Pager}
use Rattle.migration_types.specs.declared.records.GuestRec.{GuestRec}
use Rattle.migration_types.specs.declared.records.GuestRec.TheVariants.{Read, Write, Release}
use Rattle.migration_types.specs.declared.records.SourceRec.{SourceRec}
use Rattle.migration_types.specs.declared.records.SourceRec.TheVariants.{Send}
use Rattle.migration_types.specs.declared.records.PagerRec.{PagerRec}
use Rattle.migration_types.specs.declared.records.PagerRec.TheVariants.{Place, Zero}
use Rattle.migration_types.specs.Receipts.{Name, log_index}
use Rattle.migration_types.specs.Sessions.{Recorded, IsSession}
use Rattle.audit_model.specs.declared.reasons.PageReason.{PageReason}
use Rattle.audit_model.specs.declared.reasons.PageReason.TheVariants.{Read as WrongRead, Early, Given, Stale, Twice, Altered, Unfit, Over}
use Rattle.audit_model.specs.Names.{if_there}
use Rattle.audit_model.specs.Faults.{GuestFault, SourceFault, PagerFault, if_fault, IsPageFault, HasNoPageFault}
use Rattle.audit_model.specs.FirstFault.{IsFirstPageFault}
use Rattle.migration_types.specs.Paged.{AreWithin}
use Rattle.migration_types.specs.Paged.{guest_page, source_page, pager_page}
use Rattle.page_facts.specs.declared.page_fault.PageFault.{PageFault}
use Rattle.page_facts.specs.inner.FirstOfLog.{IsCleanLog, IsFirstOfLog}
use Rattle.page_facts.specs.inner.OfFindings.{precedes, least}
use Rattle.page_facts.specs.PageFaults.{page_at, Precedes, IsFaultless, IsLeastReason, AreClean, HasItsPage, IsFirstFaultOf, IsClean, IsFirstFault, IsPageOf, IsFirstFaultFrom}
use Rattle.page_facts.proofs.FirstOfAll.{guest_first, moved_of_all}
use Rattle.page_facts.proofs.Lines.{precedes_is, is_precedes, passes_on, before_both}
use Rattle.page_facts.proofs.Within.{guest_within, source_within, pager_within}

-- the first fault of pages of two kinds, from those of each
module _ (s : Recorded) (Low High All : ℕ → Type 0) (low : (p : ℕ) → Low p → All p) (high : (p : ℕ) → High p → All p) (each : (p : ℕ) → All p → (Low p) ⊎ (High p)) where
  abbrev AreCleanIf : (ℕ → Type 0) → (Name → Type 0) → Type 0
  AreCleanIf Among C = (p : ℕ) (name : Name) → Among p → page_at s name ≡ Some p → C name → IsFaultless s name

  both : (C : Name → Type 0) → AreCleanIf Low C → AreCleanIf High C → AreCleanIf All C
  both C below above p name among at c = go (each p among)
    where
      go : (Low p) ⊎ (High p) → IsFaultless s name
      go (inl is) = below p name is at c
      go (inr is) = above p name is at c

  keeps : (f : PageFault) → IsFirstFaultOf s Low f → AreCleanIf High (λ name. Precedes name (f.log, f.place)) → IsFirstFaultOf s All f
  keeps f below above = record {
    is_among = low f.page below.is_among;
    is_of = below.is_of;
    is_reason = below.is_reason;
    is_first = both (λ name. Precedes name (f.log, f.place)) below.is_first above;
  }

  takes : (f : PageFault) → IsFirstFaultOf s High f → AreCleanIf Low (λ name. Precedes name (f.log, f.place)) → IsFirstFaultOf s All f
  takes f above below = record {
    is_among = high f.page above.is_among;
    is_of = above.is_of;
    is_reason = above.is_reason;
    is_first = both (λ name. Precedes name (f.log, f.place)) below above.is_first;
  }

  least_both : (a b : Option PageFault) → MatchOption a (AreClean s Low) (IsFirstFaultOf s Low) → MatchOption b (AreClean s High) (IsFirstFaultOf s High) → MatchOption (least a b) (AreClean s All) (IsFirstFaultOf s All)
  least_both None None below above = record { each = λ p name among at. both (λ x. Unit {0}) (λ q x is e _. below.each q x is e) (λ q x is e _. above.each q x is e) p name among at tt }
  least_both None (Some g) below above = takes g above (λ p name is at less. below.each p name is at)
  least_both (Some f) None below above = keeps f below (λ p name is at less. above.each p name is at)
  least_both (Some f) (Some g) below above = go (precedes g f) refl
    where
      go : (b : Bool) → precedes g f ≡ b → MatchOption (cond b (Some g) (Some f)) (AreClean s All) (IsFirstFaultOf s All)
      go true e = takes g above (λ p name is at less. below.is_first p name is at (passes_on name (g.log, g.place) (f.log, f.place) less (precedes_is g f e)))
      go false e = keeps f below (λ p name is at less. above.is_first p name is at (before_both name (f.log, f.place) (g.log, g.place) less (λ more. let t = is_precedes g f more in absurd (cc))))

-- no page
pub least_none : (s : Recorded) (first : ℕ) → IsFirstFaultFrom s first 0 None
least_none s first = record { each = λ p name among at. absurd (let ge = among.0 in let lt = among.1 in omega arith) }

-- so many pages, and more behind them
pub least_joined : (s : Recorded) (first count more : ℕ) (a b : Option PageFault) → IsFirstFaultFrom s first count a → IsFirstFaultFrom s (first + count) more b → IsFirstFaultFrom s first (count + more) (least a b)
least_joined s first count more a b below above = least_both s (IsPageOf first count) (IsPageOf (first + count) more) (IsPageOf first (count + more)) low high each a b below above
  where
    low : (p : ℕ) → IsPageOf first count p → IsPageOf first (count + more) p
    low p is = (is.0, omega (arith, is.1))

    high : (p : ℕ) → IsPageOf (first + count) more p → IsPageOf first (count + more) p
    high p is = (omega (arith, is.0), omega (arith, is.1))

    each : (p : ℕ) → IsPageOf first (count + more) p → (IsPageOf first count p) ⊎ (IsPageOf (first + count) more p)
    each p is = go (cases_lt p (first + count))
      where
        go : (p < first + count) ⊎ (first + count ≤ p) → (IsPageOf first count p) ⊎ (IsPageOf (first + count) more p)
        go (inl lt) = inl (is.0, lt)
        go (inr ge) = inr (ge, omega (arith, is.1))

-- so many pages, and this one behind them
pub least_more : (s : Recorded) (first count page : ℕ) (a b : Option PageFault) → page ≡ first + count → IsFirstFaultFrom s first count a → MatchOption b (IsClean s page) (IsFirstFault s page) → IsFirstFaultFrom s first (count + 1) (least a b)
least_more s first count page a b here below above = least_both s (IsPageOf first count) (λ p. p ≡ page) (IsPageOf first (count + 1)) low high each a b below above
  where
    low : (p : ℕ) → IsPageOf first count p → IsPageOf first (count + 1) p
    low p is = (is.0, omega (arith, is.1))

    high : (p : ℕ) → p ≡ page → IsPageOf first (count + 1) p
    high p same = (omega (arith, same, here), omega (arith, same, here))

    each : (p : ℕ) → IsPageOf first (count + 1) p → (IsPageOf first count p) ⊎ (p ≡ page)
    each p is = go (cases_lt p (first + count))
      where
        go : (p < first + count) ⊎ (first + count ≤ p) → (IsPageOf first count p) ⊎ (p ≡ page)
        go (inl lt) = inl (is.0, lt)
        go (inr ge) = inr (omega (arith, ge, here, is.1))

-- ---- all pages

-- a record that is of no page has no fault
module _ (s : Recorded) where
  guest_none : (n : ℕ) (r : PageReason) (x : GuestRec) → guest_page x ≡ None → GuestFault s r n x → ⊥
  guest_none n r (Read v p c x) e f = absurd (cc)
  guest_none n r (Write v p c x) e f = absurd (cc)
  guest_none n r (Release v p) e f = absurd (cc)
  guest_none n WrongRead _ e f = f
  guest_none n Early _ e f = let t = f.1.is_access in absurd (cc)
  guest_none n _ _ e f = f

  source_none : (r : PageReason) (x : SourceRec) → source_page x ≡ None → SourceFault s r x → ⊥
  source_none r (Send p content) e f = absurd (cc)
  source_none Given _ e f = f
  source_none Stale _ e f = f
  source_none _ _ e f = f

  pager_none : (n : ℕ) (r : PageReason) (x : PagerRec) → pager_page x ≡ None → PagerFault s r n x → ⊥
  pager_none n r (Place p got content) e f = absurd (cc)
  pager_none n r (Zero p) e f = absurd (cc)
  pager_none n Twice _ e f = f
  pager_none n Altered _ e f = f
  pager_none n Unfit _ e f = f
  pager_none n Over _ e f = f
  pager_none n _ _ e f = f

  if_none : {A : Type 0} (page_of : A → Option ℕ) (fault : A → Type 0) → ((x : A) → page_of x ≡ None → fault x → ⊥) → (o : Option A) → if_there page_of o ≡ None → if_fault fault o → ⊥
  if_none page_of fault none None e f = f
  if_none page_of fault none (Some x) e f = none x e f

  no_page : (name : Name) → page_at s name ≡ None → IsFaultless s name
  no_page (Guest, n) e r f = if_none guest_page (GuestFault s r n) (guest_none n r) (slice_get s.guest n) e f
  no_page (Source, n) e r f = if_none source_page (SourceFault s r) (source_none r) (slice_get s.source n) e f
  no_page (Link, n) e r f = f
  no_page (Lane, n) e r f = f
  no_page (Pager, n) e r f = if_none pager_page (PagerFault s r n) (pager_none n r) (slice_get s.pager n) e f

  below_in : {A : Type 0} (page_of : A → Option ℕ) (log : List A) (n p : ℕ) → AreWithin page_of s.geometry.pages log → if_there page_of (slice_get log n) ≡ Some p → p < s.geometry.pages
  below_in {A} page_of log n p are e = go (slice_get log n) refl e
    where
      go : (o : Option A) → slice_get log n ≡ o → if_there page_of o ≡ Some p → p < s.geometry.pages
      go None is t = absurd (cc)
      go (Some r) is t = are.each n p r is t

  module _ (limits : IsSession s) where
    page_below : (name : Name) (p : ℕ) → page_at s name ≡ Some p → p < s.geometry.pages
    page_below (Guest, n) p e = below_in guest_page s.guest n p (guest_within s.geometry s.guest limits.guest) e
    page_below (Source, n) p e = below_in source_page s.source n p (source_within s.geometry s.source limits.source) e
    page_below (Link, n) p e = absurd (cc)
    page_below (Lane, n) p e = absurd (cc)
    page_below (Pager, n) p e = below_in pager_page s.pager n p (pager_within s.version s.geometry s.pager limits.pager) e

    abbrev Pages : ℕ → Type 0
    Pages = IsPageOf 0 s.geometry.pages

    among : (name : Name) (p : ℕ) → page_at s name ≡ Some p → Pages p
    among name p e = (omega arith, omega (arith, page_below name p e))

    all_clean : AreClean s Pages → (name : Name) → IsFaultless s name
    all_clean clean name = go (page_at s name) refl
      where
        go : (o : Option ℕ) → page_at s name ≡ o → IsFaultless s name
        go None e = no_page name e
        go (Some p) e = clean.each p name (among name p e) e

    module _ (f : PageFault) (first : IsFirstFaultOf s Pages f) where
      clean_before : (name : Name) → Precedes name (f.log, f.place) → IsFaultless s name
      clean_before name less = go (page_at s name) refl
        where
          go : (o : Option ℕ) → page_at s name ≡ o → IsFaultless s name
          go None e = no_page name e
          go (Some p) e = first.is_first p name (among name p e) e less

      in_log : (log : LogName) → f.log ≡ log → IsFirstOfLog s log f
      in_log log e = record {
        is_log = e;
        is_reason = subst (λ (l : LogName). IsLeastReason s (l, f.place) f.reason) e first.is_reason;
        is_clean_below = λ n lt. clean_before (log, n) (inr (ap (λ (l : LogName). log_index l) (sym e), lt));
      }

      clean_log : (log other : LogName) → f.log ≡ log → log_index other < log_index log → IsCleanLog s other
      clean_log log other e lt = λ n. clean_before (other, n) (inl (subst (λ (l : LogName). log_index other < log_index l) (sym e) lt))

      pub first_fault_is : IsFirstPageFault s f.reason (f.log, f.place)
      first_fault_is = go f.log refl
        where
          go : (log : LogName) → f.log ≡ log → IsFirstPageFault s f.reason (f.log, f.place)
          go Guest e = guest_first s f (in_log Guest e)
          go Source e = moved_of_all s (Some f) (clean_log Source Guest e (omega arith)) (inl (in_log Source e))
          go Link e = absurd (subst (λ (l : LogName). IsPageFault s f.reason (l, f.place)) e first.is_reason.is_fault)
          go Lane e = absurd (subst (λ (l : LogName). IsPageFault s f.reason (l, f.place)) e first.is_reason.is_fault)
          go Pager e = moved_of_all s (Some f) (clean_log Pager Guest e (omega arith)) (inr (clean_log Pager Source e (omega arith), in_log Pager e))

    pub all_is : (o : Option PageFault) → IsFirstFaultFrom s 0 s.geometry.pages o → MatchOption o (HasNoPageFault s) (λ f. IsFirstPageFault s f.reason (f.log, f.place))
    all_is None clean = moved_of_all s None (λ n. all_clean clean (Guest, n)) (λ n. all_clean clean (Source, n), λ n. all_clean clean (Pager, n))
    all_is (Some f) first = first_fault_is f first

-- the first fault of all pages has its page
pub has_page : (s : Recorded) (o : Option PageFault) → IsFirstFaultFrom s 0 s.geometry.pages o → IfSome o (HasItsPage s)
has_page s None clean = tt
has_page s (Some f) first = first.is_of
