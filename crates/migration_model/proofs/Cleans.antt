-- The contents of a session that grows: no wrong read, no early access, and so on.
use Rattle.audit_model.proofs.Clean.{clash, false_if_not_true}
use Rattle.audit_model.proofs.Touched.{freed_by, mark_stays}
use Rattle.audit_model.specs.Certificates.{IsLateTouch}
use Rattle.audit_model.specs.Faults.{GuestFault, HasNoPageFault, IsEarly, IsOver, PagerFault, SourceFault, has_looked, if_fault, looks_at}
use Rattle.audit_model.specs.Flat.{at_halt, cell_after, changed, flat, freed, freed_after, halt_place, home, home_after, in_ledger, marked_late, released_after}
use Rattle.audit_model.specs.Shape.{earlier, is_placement_of, is_release}
use Rattle.audit_model.specs.declared.home.Home.{Home}
use Rattle.audit_model.specs.declared.home.Home.TheVariants.{AtSource, AtTarget}
use Rattle.audit_model.specs.declared.reasons.PageReason.{PageReason}
use Rattle.audit_model.specs.declared.reasons.PageReason.TheVariants.{Altered, Early, Given, Over, Read as WrongRead, Stale, Twice, Unfit}
use Rattle.migration_types.specs.Memory.{Memory, page_of}
use Rattle.migration_types.specs.PageSets.{Pages}
use Rattle.migration_types.specs.Sessions.{Recorded}
use Rattle.migration_types.specs.declared.records.GuestRec.{GuestRec}
use Rattle.migration_types.specs.declared.records.GuestRec.TheVariants.{Halt, Miss, Read, Release, Resume, See, Write}
use Rattle.migration_types.specs.declared.records.LaneRec.{LaneRec}
use Rattle.migration_types.specs.declared.records.LinkRec.{LinkRec}
use Rattle.migration_types.specs.declared.records.LogName.TheVariants.{Guest, Lane, Link, Pager, Source as FromSource}
use Rattle.migration_types.specs.declared.records.PagerRec.{PagerRec}
use Rattle.migration_types.specs.declared.records.PagerRec.TheVariants.{All, Fault, Got, Join, Place, Pull, Ready, Skip, Want, Zero}
use Rattle.migration_types.specs.declared.records.SourceRec.{SourceRec}
use Rattle.migration_types.specs.declared.records.SourceRec.TheVariants.{Send}
use Rattle.migration_model.proofs.Grows.{guest_more, links_as, pager_more, source_more}
use Rattle.migration_model.proofs.Lists.{AllAt, all_push, before_push, earlier_stays, get_new, get_old, get_push, length_suc}
use Rattle.std.proofs.Common.{Bool, List, None, Option, Some, [], ap, arith, cond, eq-eqb, false, inl, inr, length, refl, subst, suc, sym, true, zero, ℕ, ◌++◌, ◌<◌, ◌||◌, ◌∙◌, ◌∷◌, ◌≡◌, ◌≤◌, ◌⊎◌}
use Rattle.std.proofs.lemmas.Bool.{eqb-true}
use Rattle.std.proofs.lemmas.Option.{slice_get-get_or, slice_get_within}
use Rattle.std.specs.List.{range_with_len}
use Rattle.std.specs.Prelude.{map, slice_get, ◌==◌}

-- an access after handover is covered, or its page was released there before
abbrev pub IsCovered : Recorded → ℕ → ℕ → Type 0
IsCovered s n p = home s n ≡ AtTarget → (freed s n p || has_looked s p n) ≡ true

abbrev pub GuestClean : Recorded → ℕ → GuestRec → Type 0
GuestClean s n (Read v p c x) = (x ≡ flat s n p c) × IsCovered s n p
GuestClean s n (Write v p c x) = IsCovered s n p
GuestClean s n _ = Unit {0}

-- what is sent and placed, against the source's frames and its ledger
abbrev pub SourceClean : ℕ → Memory → Pages → SourceRec → Type 0
SourceClean cells memory ledger (Send p content) = (ledger p ≡ false) × (content ≡ page_of cells memory p)
SourceClean cells memory ledger _ = Unit {0}

abbrev pub PagerClean : ℕ → Memory → Pages → List PagerRec → ℕ → PagerRec → Type 0
PagerClean cells memory ledger log n (Place p got content) = (earlier (is_placement_of p) log n ≡ false) × (content ≡ page_of cells memory p)
PagerClean cells memory ledger log n (Zero p) = (earlier (is_placement_of p) log n ≡ false) × (ledger p ≡ true)
PagerClean cells memory ledger log n _ = Unit {0}

pub record IsClean (s : Recorded) (memory : Memory) (ledger : Pages) : Type 0 where
  pub guest : AllAt (GuestClean s) s.guest
  pub source : AllAt (λ n r. SourceClean s.geometry.cells memory ledger r) s.source
  pub pager : AllAt (PagerClean s.geometry.cells memory ledger s.pager) s.pager

-- the source's frames and ledger are those of the halt
pub record IsFrozen (s : Recorded) (memory : Memory) (ledger : Pages) : Type 0 where
  pub memory_is : (p c : ℕ) → memory p c ≡ flat s (at_halt s) p c
  pub ledger_is : (p : ℕ) → ledger p ≡ in_ledger s (at_halt s) p
  pub halt_stands : slice_get s.guest (at_halt s) ≡ Some Halt

itself : (p : ℕ) → (p == p) ≡ true
itself p = eq-eqb p p refl

pub same_page : (cells : ℕ) (m k : Memory) (p : ℕ) → ((c : ℕ) → m p c ≡ k p c) → page_of cells m p ≡ page_of cells k p
same_page cells m k p same i = map (λ c. same c i) (range_with_len 0 cells)

covered_at : (s : Recorded) (n p page : ℕ) → IsCovered s n p → (p == page) ≡ true → home s n ≡ AtTarget → freed s n page ≡ false → has_looked s page n ≡ false → ⊥
covered_at s n p page h is late kept un = clash (freed s n page || has_looked s page n) (subst (λ k. (freed s n k || has_looked s k n) ≡ true) (eqb-true p page is) (h late)) (ap (λ b. b || has_looked s page n) kept ∙ un)

early_not : (s : Recorded) (n : ℕ) (r : GuestRec) → GuestClean s n r → (page : ℕ) → IsEarly s n r page → ⊥
early_not s n (Read v p c x) h page e = covered_at s n p page h.1 e.is_access e.is_late e.is_kept e.is_uncovered
early_not s n (Write v p c x) h page e = covered_at s n p page h e.is_access e.is_late e.is_kept e.is_uncovered
early_not s n (Release v p) h page e = let a = e.is_access in cc
early_not s n (Miss v p) h page e = let a = e.is_access in cc
early_not s n Halt h page e = let a = e.is_access in cc
early_not s n (Resume i) h page e = let a = e.is_access in cc
early_not s n (See i) h page e = let a = e.is_access in cc

pub guest_not : (s : Recorded) (n : ℕ) (r : GuestRec) → GuestClean s n r → (reason : PageReason) → GuestFault s reason n r → ⊥
guest_not s n (Read v p c x) h WrongRead e = e h.0
guest_not s n r h Early e = early_not s n r h e.0 e.1
guest_not s n r h reason e = e

module _ (s : Recorded) (memory : Memory) (ledger : Pages) (z : IsFrozen s memory ledger) (none_over : (page n : ℕ) (r : PagerRec) → slice_get s.pager n ≡ Some r → is_placement_of page r ≡ true → IsOver s page → ⊥) where
  source_not : (reason : PageReason) (r : SourceRec) → SourceClean s.geometry.cells memory ledger r → SourceFault s reason r → ⊥
  source_not Given (Send p content) h e = clash (ledger p) (z.ledger_is p ∙ e) h.0
  source_not Stale (Send p content) h e = e (h.1 ∙ same_page s.geometry.cells memory (flat s (at_halt s)) p (z.memory_is p))
  source_not reason r h e = e

  pager_not : (n : ℕ) (reason : PageReason) (r : PagerRec) → slice_get s.pager n ≡ Some r → PagerClean s.geometry.cells memory ledger s.pager n r → PagerFault s reason n r → ⊥
  pager_not n Twice (Place p got content) is h e = clash (earlier (is_placement_of p) s.pager n) e h.0
  pager_not n Altered (Place p got content) is h e = e (h.1 ∙ same_page s.geometry.cells memory (flat s (at_halt s)) p (z.memory_is p))
  pager_not n Twice (Zero p) is h e = clash (earlier (is_placement_of p) s.pager n) e h.0
  pager_not n Unfit (Zero p) is h e = clash (ledger p) h.1 (z.ledger_is p ∙ e)
  pager_not n Over (Place p got content) is h e = none_over p n (Place p got content) is (itself p) e.1
  pager_not n Over (Zero p) is h e = none_over p n (Zero p) is (itself p) e.1
  pager_not n reason r is h e = e

  pub no_page_fault : IsClean s memory ledger → HasNoPageFault s
  no_page_fault k reason (Guest, n) = go (slice_get s.guest n) refl
    where
      go : (o : Option GuestRec) → slice_get s.guest n ≡ o → if_fault (GuestFault s reason n) o → ⊥
      go None is e = e
      go (Some r) is e = guest_not s n r (k.guest n r is) reason e
  no_page_fault k reason (FromSource, n) = go (slice_get s.source n) refl
    where
      go : (o : Option SourceRec) → slice_get s.source n ≡ o → if_fault (SourceFault s reason) o → ⊥
      go None is e = e
      go (Some r) is e = source_not reason r (k.source n r is) e
  no_page_fault k reason (Link, n) = λ e. e
  no_page_fault k reason (Lane, n) = λ e. e
  no_page_fault k reason (Pager, n) = go (slice_get s.pager n) refl
    where
      go : (o : Option PagerRec) → slice_get s.pager n ≡ o → if_fault (PagerFault s reason n) o → ⊥
      go None is e = e
      go (Some r) is e = pager_not n reason r is (k.pager n r is) e

-- what the guest's records say before one that stands is as it was
pub flat_push : (r : GuestRec) (s : Recorded) (n p c : ℕ) → n ≤ length s.guest → flat (guest_more r s) n p c ≡ flat s n p c
flat_push r s n p c le = before_push (cell_after p c) _ s.guest (r ∷ []) n le

pub home_push : (r : GuestRec) (s : Recorded) (n : ℕ) → n ≤ length s.guest → home (guest_more r s) n ≡ home s n
home_push r s n le = before_push home_after AtSource s.guest (r ∷ []) n le

looked_push : (r : GuestRec) (s : Recorded) (n p : ℕ) → n ≤ length s.guest → has_looked (guest_more r s) p n ≡ has_looked s p n
looked_push r s n p le = before_push (λ y found. looks_at s p y || found) false s.guest (r ∷ []) n le

get_before : (log : List GuestRec) (r : GuestRec) (n : ℕ) → n < length log → slice_get (log ++ r ∷ []) n ≡ slice_get log n
get_before log r n lt = let is = slice_get-get_or log n r lt in get_old log (r ∷ []) n _ is ∙ sym is

pub freed_push : (r : GuestRec) (s : Recorded) (n p : ℕ) → n ≤ length s.guest → freed (guest_more r s) n p ≡ freed s n p
freed_push r s zero p le = refl
freed_push r s (suc n) p le =
    let t = guest_more r s in
    ap (λ h. changed (freed_after h p) (slice_get t.guest n) (freed t n p)) (home_push r s n (omega arith))
    ∙ ap (λ o. changed (freed_after (home s n) p) o (freed t n p)) (get_before s.guest r n (omega arith))
    ∙ ap (λ b. changed (freed_after (home s n) p) (slice_get s.guest n) b) (freed_push r s n p (omega arith))

-- the freed pages after one more record
pub freed_end : (r : GuestRec) (s : Recorded) (p : ℕ) → freed (guest_more r s) (length (guest_more r s).guest) p ≡ freed_after (home s (length s.guest)) p r (freed s (length s.guest) p)
freed_end r s p =
    let t = guest_more r s in
    let n = length s.guest in
    ap (λ m. freed t m p) (length_suc s.guest r)
    ∙ ap (λ h. changed (freed_after h p) (slice_get t.guest n) (freed t n p)) (home_push r s n (omega arith))
    ∙ ap (λ o. changed (freed_after (home s n) p) o (freed t n p)) (get_new s.guest r)
    ∙ ap (λ b. freed_after (home s n) p r b) (freed_push r s n p (omega arith))

freed_after_stays : (h : Home) (p : ℕ) (r : GuestRec) → freed_after h p r true ≡ true
freed_after_stays h p (Release v q) = mark_stays h (q == p) refl
freed_after_stays h p (Read v q c x) = refl
freed_after_stays h p (Write v q c x) = refl
freed_after_stays h p (Miss v q) = refl
freed_after_stays h p Halt = refl
freed_after_stays h p (Resume i) = refl
freed_after_stays h p (See k) = refl

-- a page that is freed stays so
pub freed_stays : (r : GuestRec) (s : Recorded) (p : ℕ) → freed s (length s.guest) p ≡ true → freed (guest_more r s) (length (guest_more r s).guest) p ≡ true
freed_stays r s p e = let h = home s (length s.guest) in freed_end r s p ∙ ap (λ b. freed_after h p r b) e ∙ freed_after_stays h p r

-- a page that the guest releases at the target is freed
pub freed_here : (v p : ℕ) (s : Recorded) → home s (length s.guest) ≡ AtTarget → freed (guest_more (Release v p) s) (length (guest_more (Release v p) s).guest) p ≡ true
freed_here v p s late =
    let old = freed s (length s.guest) p in
    freed_end (Release v p) s p ∙ ap (λ h. marked_late h (p == p) old) late ∙ ap (λ b. cond b true old) (itself p)

covered_push : (r : GuestRec) (s : Recorded) (n p : ℕ) → n ≤ length s.guest → IsCovered s n p → IsCovered (guest_more r s) n p
covered_push r s n p le h late =
    let t = guest_more r s in
    ap (λ b. b || has_looked t p n) (freed_push r s n p le) ∙ ap (λ b. freed s n p || b) (looked_push r s n p le) ∙ h (sym (home_push r s n le) ∙ late)

clean_push : (r : GuestRec) (s : Recorded) (n : ℕ) (y : GuestRec) → n ≤ length s.guest → GuestClean s n y → GuestClean (guest_more r s) n y
clean_push r s n (Read v p c x) le h = (h.0 ∙ sym (flat_push r s n p c le), covered_push r s n p le h.1)
clean_push r s n (Write v p c x) le h = covered_push r s n p le h
clean_push r s n (Release v p) le h = tt
clean_push r s n (Miss v p) le h = tt
clean_push r s n Halt le h = tt
clean_push r s n (Resume i) le h = tt
clean_push r s n (See i) le h = tt

pub guest_cleans : (r : GuestRec) (s : Recorded) (memory : Memory) (ledger : Pages) → GuestClean s (length s.guest) r → IsClean s memory ledger → IsClean (guest_more r s) memory ledger
guest_cleans r s memory ledger here k = record {
  guest = all_push (GuestClean s) (GuestClean (guest_more r s)) s.guest r k.guest
      (λ n y is h. let lt : n < length s.guest = slice_get_within s.guest n y is in clean_push r s n y (omega arith) h)
      (clean_push r s (length s.guest) r (omega arith) here);
  source = k.source;
  pager = k.pager;
}

pub source_cleans : (r : SourceRec) (s : Recorded) (memory : Memory) (ledger : Pages) → SourceClean s.geometry.cells memory ledger r → IsClean s memory ledger → IsClean (source_more r s) memory ledger
source_cleans r s memory ledger here k = record {
  guest = k.guest;
  source = all_push (λ n y. SourceClean s.geometry.cells memory ledger y) (λ n y. SourceClean s.geometry.cells memory ledger y) s.source r k.source (λ n y is h. h) here;
  pager = k.pager;
}

-- whatever the link's and the lane's logs say
pub links_cleans : (link : List LinkRec) (lane : List LaneRec) (s : Recorded) (memory : Memory) (ledger : Pages) → IsClean s memory ledger → IsClean (links_as link lane s) memory ledger
links_cleans link lane s memory ledger k = record { guest = k.guest; source = k.source; pager = k.pager }

looks_grow : (r : PagerRec) (s : Recorded) (p : ℕ) (y : GuestRec) → looks_at s p y ≡ true → looks_at (pager_more r s) p y ≡ true
looks_grow r s p (See k) e = earlier_stays (is_placement_of p) (is_placement_of p) s.pager (pager_more r s).pager (suc k) (λ m x is. get_old _ _ m x is) (λ x e. e) e
looks_grow r s p (Read v q c x) e = absurd (cc)
looks_grow r s p (Write v q c x) e = absurd (cc)
looks_grow r s p (Release v q) e = absurd (cc)
looks_grow r s p (Miss v q) e = absurd (cc)
looks_grow r s p Halt e = absurd (cc)
looks_grow r s p (Resume i) e = absurd (cc)

looked_grows : (r : PagerRec) (s : Recorded) (n p : ℕ) → has_looked s p n ≡ true → has_looked (pager_more r s) p n ≡ true
looked_grows r s n p e = earlier_stays (looks_at s p) (looks_at (pager_more r s) p) s.guest s.guest n (λ m x is. is) (looks_grow r s p) e

or_grows : (a b c : Bool) → (b ≡ true → c ≡ true) → (a || b) ≡ true → (a || c) ≡ true
or_grows true b c kept e = refl
or_grows false b c kept e = kept e

covered_grows : (r : PagerRec) (s : Recorded) (n p : ℕ) → IsCovered s n p → IsCovered (pager_more r s) n p
covered_grows r s n p h late =
    let t = pager_more r s in
    or_grows (freed s n p) (has_looked s p n) (has_looked t p n) (looked_grows r s n p) (h late)

clean_grows : (r : PagerRec) (s : Recorded) (n : ℕ) (y : GuestRec) → GuestClean s n y → GuestClean (pager_more r s) n y
clean_grows r s n (Read v p c x) h = (h.0, covered_grows r s n p h.1)
clean_grows r s n (Write v p c x) h = covered_grows r s n p h
clean_grows r s n (Release v p) h = tt
clean_grows r s n (Miss v p) h = tt
clean_grows r s n Halt h = tt
clean_grows r s n (Resume i) h = tt
clean_grows r s n (See i) h = tt

first_stays : (r : PagerRec) (log : List PagerRec) (n p : ℕ) → n ≤ length log → earlier (is_placement_of p) (log ++ r ∷ []) n ≡ earlier (is_placement_of p) log n
first_stays r log n p le = before_push (λ y found. is_placement_of p y || found) false log (r ∷ []) n le

pager_clean_push : (cells : ℕ) (memory : Memory) (ledger : Pages) (r : PagerRec) (log : List PagerRec) (n : ℕ) (y : PagerRec) → n ≤ length log → PagerClean cells memory ledger log n y → PagerClean cells memory ledger (log ++ r ∷ []) n y
pager_clean_push cells memory ledger r log n (Place p g c) le h = (first_stays r log n p le ∙ h.0, h.1)
pager_clean_push cells memory ledger r log n (Zero p) le h = (first_stays r log n p le ∙ h.0, h.1)
pager_clean_push cells memory ledger r log n (Got k) le h = tt
pager_clean_push cells memory ledger r log n (Pull k) le h = tt
pager_clean_push cells memory ledger r log n Ready le h = tt
pager_clean_push cells memory ledger r log n (Fault k) le h = tt
pager_clean_push cells memory ledger r log n (Join k) le h = tt
pager_clean_push cells memory ledger r log n (Want p) le h = tt
pager_clean_push cells memory ledger r log n (Skip k) le h = tt
pager_clean_push cells memory ledger r log n All le h = tt

pub pager_cleans : (r : PagerRec) (s : Recorded) (memory : Memory) (ledger : Pages) → PagerClean s.geometry.cells memory ledger s.pager (length s.pager) r → IsClean s memory ledger → IsClean (pager_more r s) memory ledger
pager_cleans r s memory ledger here k =
    let log = s.pager in
    let cells = s.geometry.cells in
    record {
      guest = λ n y is. clean_grows r s n y (k.guest n y is);
      source = k.source;
      pager = all_push (PagerClean cells memory ledger log) (PagerClean cells memory ledger (log ++ r ∷ [])) log r k.pager
          (λ n y is h. let lt : n < length log = slice_get_within log n y is in pager_clean_push cells memory ledger r log n y (omega arith) h)
          (pager_clean_push cells memory ledger r log (length log) r (omega arith) here);
    }

halt_place_push : (log : List GuestRec) (r : GuestRec) → slice_get log (halt_place log) ≡ Some Halt → halt_place (log ++ r ∷ []) ≡ halt_place log
halt_place_push [] r e = absurd (cc)
halt_place_push (Halt ∷ log) r e = refl
halt_place_push (Read v p c x ∷ log) r e = ap suc (halt_place_push log r e)
halt_place_push (Write v p c x ∷ log) r e = ap suc (halt_place_push log r e)
halt_place_push (Release v p ∷ log) r e = ap suc (halt_place_push log r e)
halt_place_push (Miss v p ∷ log) r e = ap suc (halt_place_push log r e)
halt_place_push (Resume i ∷ log) r e = ap suc (halt_place_push log r e)
halt_place_push (See i ∷ log) r e = ap suc (halt_place_push log r e)

pub guest_frozen : (r : GuestRec) (s : Recorded) (memory : Memory) (ledger : Pages) → IsFrozen s memory ledger → IsFrozen (guest_more r s) memory ledger
guest_frozen r s memory ledger z =
    let t = (guest_more r s) in
    let at : at_halt t ≡ at_halt s = halt_place_push s.guest r z.halt_stands in
    let lt : at_halt s < length s.guest = slice_get_within s.guest (at_halt s) Halt z.halt_stands in
    record {
      memory_is = λ p c. z.memory_is p c ∙ sym (flat_push r s (at_halt s) p c (omega arith)) ∙ ap (λ n. flat t n p c) (sym at);
      ledger_is = λ p. z.ledger_is p ∙ sym (before_push (released_after p) false s.guest (r ∷ []) (at_halt s) (omega arith)) ∙ ap (λ n. in_ledger t n p) (sym at);
      halt_stands = ap (λ n. slice_get t.guest n) at ∙ get_old s.guest (r ∷ []) (at_halt s) Halt z.halt_stands;
    }

-- pages whose first touch at the target is a release that no look covers: of the session that has grown, and before
pub over_source : (r : SourceRec) (s : Recorded) (p : ℕ) → IsOver (source_more r s) p → IsOver s p
over_source r s p o = record {
  release = o.release;
  vcpu = o.vcpu;
  stands = o.stands;
  is_late = o.is_late;
  is_first = λ n t. o.is_first n (record { by = t.by; stands = t.stands; is_touch = t.is_touch; is_late = t.is_late });
  is_uncovered = o.is_uncovered;
}

pub over_links : (link : List LinkRec) (lane : List LaneRec) (s : Recorded) (p : ℕ) → IsOver (links_as link lane s) p → IsOver s p
over_links link lane s p o = record {
  release = o.release;
  vcpu = o.vcpu;
  stands = o.stands;
  is_late = o.is_late;
  is_first = λ n t. o.is_first n (record { by = t.by; stands = t.stands; is_touch = t.is_touch; is_late = t.is_late });
  is_uncovered = o.is_uncovered;
}

pub over_pager : (r : PagerRec) (s : Recorded) (p : ℕ) → IsOver (pager_more r s) p → IsOver s p
over_pager r s p o = record {
  release = o.release;
  vcpu = o.vcpu;
  stands = o.stands;
  is_late = o.is_late;
  is_first = λ n t. o.is_first n (record { by = t.by; stands = t.stands; is_touch = t.is_touch; is_late = t.is_late });
  is_uncovered = false_if_not_true (has_looked s p o.release) (λ e. clash (has_looked (pager_more r s) p o.release) (looked_grows r s o.release p e) o.is_uncovered);
}

touch_push : (r : GuestRec) (s : Recorded) (p n : ℕ) → IsLateTouch s p n → IsLateTouch (guest_more r s) p n
touch_push r s p n t =
    let lt : n < length s.guest = slice_get_within s.guest n t.by t.stands in
    record { by = t.by; stands = get_old s.guest (r ∷ []) n t.by t.stands; is_touch = t.is_touch; is_late = home_push r s n (omega arith) ∙ t.is_late }

-- the record releases the page, which was not freed before, and no look covers it
abbrev pub IsBareRelease : Recorded → ℕ → GuestRec → Type 0
IsBareRelease s p r = (v : ℕ) × (r ≡ Release v p) × ((freed s (length s.guest) p || has_looked s p (length s.guest)) ≡ false)

pub over_guest : (r : GuestRec) (s : Recorded) (p : ℕ) → IsOver (guest_more r s) p → IsOver s p ⊎ IsBareRelease s p r
over_guest r s p o = go (get_push s.guest r o.release (Release o.vcpu p) o.stands)
  where
    go : (slice_get s.guest o.release ≡ Some (Release o.vcpu p)) ⊎ ((o.release ≡ length s.guest) × (r ≡ Release o.vcpu p)) → IsOver s p ⊎ IsBareRelease s p r
    go (inl is) =
        let lt : o.release < length s.guest = slice_get_within s.guest o.release (Release o.vcpu p) is in
        inl (record {
          release = o.release;
          vcpu = o.vcpu;
          stands = is;
          is_late = sym (home_push r s o.release (omega arith)) ∙ o.is_late;
          is_first = λ n t. o.is_first n (touch_push r s p n t);
          is_uncovered = sym (looked_push r s o.release p (omega arith)) ∙ o.is_uncovered;
        })
    go (inr h) =
        let n = length s.guest in
        let unfreed : freed s n p ≡ false = false_if_not_true (freed s n p) (λ e. let w = freed_by s n p e in absurd (omega (arith, w.1, h.0, o.is_first w.0 (touch_push r s p w.0 w.2)))) in
        inr (o.vcpu, h.1, ap (λ b. b || has_looked s p n) unfreed ∙ sym (looked_push r s n p (omega arith)) ∙ ap (λ m. has_looked (guest_more r s) p m) (sym h.0) ∙ o.is_uncovered)

-- a record that releases no page
pub over_other : (r : GuestRec) (s : Recorded) (p : ℕ) → is_release r ≡ false → IsOver (guest_more r s) p → IsOver s p
over_other r s p other o = go (over_guest r s p o)
  where
    go : IsOver s p ⊎ IsBareRelease s p r → IsOver s p
    go (inl old) = old
    go (inr new) = absurd (clash (is_release r) (ap is_release new.1) other)
