-- A page fault breaks the demand at its record, and a session without one is safe.
use Rattle.std.proofs.Common.{◌≡◌, ◌≢◌, ◌↔◌, ℕ, ◌<◌, Bool, true, false, List, length, Option, Some, None, refl, ◌∙◌, subst, eqb-true}
use Rattle.std.specs.Prelude.{slice_get}
use Rattle.migration_types.specs.declared.records.GuestRec.{GuestRec}
use Rattle.migration_types.specs.declared.records.GuestRec.TheVariants.{Release}
use Rattle.migration_types.specs.declared.records.PagerRec.{PagerRec}
use Rattle.migration_types.specs.declared.records.PagerRec.TheVariants.{Got, Pull, Ready, Fault, Join, Want, Place, Zero, Skip, All}
use Rattle.migration_types.specs.Sessions.{Recorded, IsSession}
use Rattle.migration_types.specs.declared.records.LogName.TheVariants.{Guest, Pager}
use Rattle.audit_model.specs.World.{world_after, pager_demand, if_record, IsSafe}
use Rattle.audit_model.specs.Shape.{IsRightShape, is_placement_of, earlier}
use Rattle.migration_types.specs.Receipts.{Name}
use Rattle.audit_model.specs.Names.{log_length}
use Rattle.audit_model.specs.Mergings.{IsMerging, HasMerging, StandsAfter}
use Rattle.audit_model.specs.Delayed.{IsFirstPlacement, IsDelayedOrder}
use Rattle.audit_model.specs.declared.reasons.PageReason.{PageReason}
use Rattle.audit_model.specs.declared.reasons.PageReason.TheVariants.{Read as WrongRead, Early, Given, Stale, Twice, Altered, Unfit, Over}
use Rattle.audit_model.specs.Faults.{IsEarly, GuestFault, SourceFault, PagerFault, if_fault, IsPageFault, HasNoPageFault}
use Rattle.migration_types.specs.declared.records.SourceRec.{SourceRec}
use Rattle.migration_types.specs.declared.records.LogName.TheVariants.{Source, Link, Lane}
use Rattle.audit_model.specs.Laws.{IsFaultless, FaultsBreak, DelayedBreaks, DelayedUnplaced, DelayedOver, UnplacedBreaks, BreaksAt, SafeExactlyIfClean}
use Rattle.std.proofs.lemmas.Option.{slice_get_within}
use Rattle.audit_model.proofs.Fits.{session_fits}
use Rattle.audit_model.proofs.Delays.{delayed_order}
use Rattle.audit_model.proofs.History.{earlier_witness, earlier_true}
use Rattle.audit_model.proofs.Orders.{is_at}
use Rattle.audit_model.proofs.Touched.{access_touches}
use Rattle.audit_model.proofs.Entries.{itself}
use Rattle.audit_model.proofs.Clean.{fitting_safe, clean_safe, fault_breaks, early_breaks, first_placement, IsOverPlacement, fault_over, false_if_not_true, clash}
use Rattle.audit_model.proofs.Late.{stands_somewhere, delayed_merges, delayed_breaks, delayed_unplaced, delayed_is_touched}

pub faultless_is_safe : (s : Recorded) → IsFaultless s → IsSafe s
faultless_is_safe s given = clean_safe s given.clean given.is_session given.shape

pub faults_break : (s : Recorded) → IsRightShape s → FaultsBreak s
faults_break s shape order merging reason name other more f past stands d = fault_breaks s shape order merging past reason name other more f stands d

pub delayed_order_breaks : (s : Recorded) → IsRightShape s → DelayedBreaks s
delayed_order_breaks s shape order merging n page place r is early first delayed late = (
  delayed_merges s shape order merging n page r is (access_touches page r early.is_access) early.is_uncovered place first delayed late,
  delayed_breaks s shape order merging n page r is (access_touches page r early.is_access) early.is_uncovered place first delayed late early,
)

pub delayed_order_unplaced : (s : Recorded) → IsRightShape s → DelayedUnplaced s
delayed_order_unplaced s shape order merging n page place r is early first delayed late =
    delayed_unplaced s shape order merging n page r is (access_touches page r early.is_access) early.is_uncovered place first delayed late

-- a placement over a release, where it is delayed
module _ (s : Recorded) (shape : IsRightShape s) (order : List Name) (merging : IsMerging s order) (place page : ℕ) (r : PagerRec) (is : slice_get s.pager place ≡ Some r) (o : IsOverPlacement s place r page) (delayed : List Name) (late : IsDelayedOrder s order (Pager, place) delayed) where
  first_is : IsFirstPlacement s page place
  first_is = record { by = r; stands = is; places = o.places; is_first = o.is_first }

  over_merges : IsMerging s delayed
  over_merges = delayed_merges s shape order merging o.over.release page (Release o.over.vcpu page) o.over.stands (itself page) o.over.is_uncovered place first_is delayed late

  over_touched : (past : List Name) → StandsAfter delayed past (Pager, place) → (world_after s past).touched page ≡ true
  over_touched past stands = delayed_is_touched s shape order merging o.over.release page (Release o.over.vcpu page) o.over.stands (itself page) o.over.is_uncovered place first_is delayed late o.over.is_late past stands

  over_breaks : BreaksAt s delayed (Pager, place)
  over_breaks past stands d = go r o.places (subst (λ x. if_record (pager_demand s) x (world_after s past)) is d)
    where
      go : (r : PagerRec) → is_placement_of page r ≡ true → pager_demand s r (world_after s past) → ⊥
      go (Place q got content) e d = let same : q ≡ page = eqb-true q page e in clash _ (over_touched past stands) (subst (λ k. (world_after s past).touched k ≡ false) same d.is_untouched)
      go (Zero q) e d = let same : q ≡ page = eqb-true q page e in clash _ (over_touched past stands) (subst (λ k. (world_after s past).touched k ≡ false) same d.is_untouched)
      go (Got k) e d = absurd (cc)
      go (Pull k) e d = absurd (cc)
      go Ready e d = absurd (cc)
      go (Fault k) e d = absurd (cc)
      go (Join k) e d = absurd (cc)
      go (Want k) e d = absurd (cc)
      go (Skip k) e d = absurd (cc)
      go All e d = absurd (cc)

pub delayed_over : (s : Recorded) → IsRightShape s → DelayedOver s
delayed_over s shape order merging place f delayed late = go (slice_get s.pager place) refl f
  where
    go : (x : Option PagerRec) → slice_get s.pager place ≡ x → if_fault (PagerFault s Over place) x → IsMerging s delayed × BreaksAt s delayed (Pager, place)
    go None is f = absurd f
    go (Some r) is f =
        let o = fault_over s place r f in
        (over_merges s shape order merging place o.0 r is o.1 delayed late, over_breaks s shape order merging place o.0 r is o.1 delayed late)

pub unplaced_breaks : (s : Recorded) → IsRightShape s → UnplacedBreaks s
unplaced_breaks s shape order merging n page r is early none past stands d =
    let at = is_at s shape order merging past (Guest, n) stands in
    let absent : (k : ℕ) → earlier (is_placement_of page) s.pager k ≡ false = λ k. false_if_not_true _ (λ e. let w = earlier_witness (is_placement_of page) s.pager k e in clash _ w.4 (none w.0 w.1 w.3)) in
    early_breaks s shape order merging past n page r is early stands (at.0.world.placed_is page ∙ absent _) d

module _ (s : Recorded) (shape : IsRightShape s) (given : HasMerging s) (safe : IsSafe s) where
  never_breaks : (order : List Name) → IsMerging s order → (name : Name) → name.1 < log_length s name.0 → BreaksAt s order name → ⊥
  never_breaks order merging name small breaks =
      let stands = stands_somewhere s order merging name small in
      breaks stands.0 stands.1 (safe order merging stands.0 name stands.1)

  never_early : (n page : ℕ) (r : GuestRec) → slice_get s.guest n ≡ Some r → IsEarly s n r page → ⊥
  never_early n page r is early = go (earlier (is_placement_of page) s.pager (length s.pager)) refl
    where
      small : n < log_length s Guest
      small = slice_get_within s.guest n r is

      go : (b : Bool) → earlier (is_placement_of page) s.pager (length s.pager) ≡ b → ⊥
      go true e =
          let first = first_placement s page (length s.pager) e in
          let delayed = delayed_order s given.0 given.1 first.0 in
          let breaks = delayed_order_breaks s shape given.0 given.1 n page first.0 r is early first.1 delayed.0 delayed.1 in
          never_breaks delayed.0 breaks.0 (Guest, n) small breaks.1
      go false e =
          never_breaks given.0 given.1 (Guest, n) small
          (unplaced_breaks s shape given.0 given.1 n page r is early
          (λ m t at. false_if_not_true _ (λ f. clash _ (earlier_true (is_placement_of page) s.pager m (length s.pager) t at f (slice_get_within s.pager m t at)) e)))

  there_is : (reason : PageReason) (name : Name) → IsPageFault s reason name → name.1 < log_length s name.0
  there_is reason (Guest, n) f = go (slice_get s.guest n) refl f
    where
      go : (o : Option GuestRec) → slice_get s.guest n ≡ o → if_fault (GuestFault s reason n) o → n < length s.guest
      go None is f = absurd f
      go (Some r) is f = slice_get_within s.guest n r is
  there_is reason (Source, n) f = go (slice_get s.source n) refl f
    where
      go : (o : Option SourceRec) → slice_get s.source n ≡ o → if_fault (SourceFault s reason) o → n < length s.source
      go None is f = absurd f
      go (Some r) is f = slice_get_within s.source n r is
  there_is reason (Link, n) f = absurd f
  there_is reason (Lane, n) f = absurd f
  there_is reason (Pager, n) f = go (slice_get s.pager n) refl f
    where
      go : (o : Option PagerRec) → slice_get s.pager n ≡ o → if_fault (PagerFault s reason n) o → n < length s.pager
      go None is f = absurd f
      go (Some r) is f = slice_get_within s.pager n r is

  other_fault : (reason : PageReason) → reason ≢ Early → reason ≢ Over → (name : Name) → IsPageFault s reason name → ⊥
  other_fault reason other more name f = never_breaks given.0 given.1 name (there_is reason name f) (faults_break s shape given.0 given.1 reason name other more f)

  early_fault : (name : Name) → IsPageFault s Early name → ⊥
  early_fault (Guest, n) f = go (slice_get s.guest n) refl f
    where
      go : (o : Option GuestRec) → slice_get s.guest n ≡ o → if_fault (GuestFault s Early n) o → ⊥
      go None is f = f
      go (Some r) is f = never_early n f.0 r is f.1
  early_fault (Source, n) f = go (slice_get s.source n) f
    where
      go : (o : Option SourceRec) → if_fault (SourceFault s Early) o → ⊥
      go None f = f
      go (Some r) f = f
  early_fault (Link, n) f = f
  early_fault (Lane, n) f = f
  early_fault (Pager, n) f = go (slice_get s.pager n) f
    where
      go : (o : Option PagerRec) → if_fault (PagerFault s Early n) o → ⊥
      go None f = f
      go (Some r) f = f

  over_fault_at : (name : Name) → IsPageFault s Over name → ⊥
  over_fault_at (Guest, n) f = go (slice_get s.guest n) f
    where
      go : (o : Option GuestRec) → if_fault (GuestFault s Over n) o → ⊥
      go None f = f
      go (Some r) f = f
  over_fault_at (Source, n) f = go (slice_get s.source n) f
    where
      go : (o : Option SourceRec) → if_fault (SourceFault s Over) o → ⊥
      go None f = f
      go (Some r) f = f
  over_fault_at (Link, n) f = f
  over_fault_at (Lane, n) f = f
  over_fault_at (Pager, n) f =
      let delayed = delayed_order s given.0 given.1 n in
      let breaks = delayed_over s shape given.0 given.1 n f delayed.0 delayed.1 in
      never_breaks delayed.0 breaks.0 (Pager, n) (there_is Over (Pager, n) f) breaks.1

  pub safe_is_clean : HasNoPageFault s
  safe_is_clean WrongRead name f = other_fault WrongRead (λ e. cc) (λ e. cc) name f
  safe_is_clean Early name f = early_fault name f
  safe_is_clean Given name f = other_fault Given (λ e. cc) (λ e. cc) name f
  safe_is_clean Stale name f = other_fault Stale (λ e. cc) (λ e. cc) name f
  safe_is_clean Twice name f = other_fault Twice (λ e. cc) (λ e. cc) name f
  safe_is_clean Altered name f = other_fault Altered (λ e. cc) (λ e. cc) name f
  safe_is_clean Unfit name f = other_fault Unfit (λ e. cc) (λ e. cc) name f
  safe_is_clean Over name f = over_fault_at name f

pub fitting_exactly : (s : Recorded) → SafeExactlyIfClean s
fitting_exactly s fits shape given = (λ safe. safe_is_clean s shape given safe, λ clean. fitting_safe s clean fits shape)

-- so of a session in its limits
pub safe_exactly_if_clean : (s : Recorded) → IsSession s → IsRightShape s → HasMerging s → IsSafe s ↔ HasNoPageFault s
safe_exactly_if_clean s limits = fitting_exactly s (session_fits s limits)
