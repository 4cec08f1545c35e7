-- The tests for demands tell these demands; and safe orders, one name after another.
use Rattle.std.proofs.Common.{◌≡◌, ◌≢◌, ℕ, ◌+◌, ◌<◌, ◌≤◌, ◌⊎◌, inl, inr, Bool, true, not, ◌&&◌, ◌==◌, List, [], ◌∷◌, ◌++◌, length, take, get_or, Option, Some, None, refl, sym, ap, ◌∙◌, subst, eqb-true, eq-eqb}
use Rattle.std.specs.Prelude.{slice_get}
use Rattle.std.specs.Bool.{Decides}
use Rattle.std.proofs.lemmas.Bool.{and_from, and_parts}
use Rattle.std.proofs.lemmas.List.{take_more, take_all}
use Rattle.std.proofs.lemmas.Slice.Eq.{bytes_eq-Decides}
use Rattle.migration_types.specs.declared.records.LogName.TheVariants.{Guest, Source, Link, Lane, Pager}
use Rattle.migration_types.specs.declared.records.GuestRec.{GuestRec}
use Rattle.migration_types.specs.declared.records.GuestRec.TheVariants.{Read, Write}
use Rattle.migration_types.specs.declared.records.SourceRec.{SourceRec}
use Rattle.migration_types.specs.declared.records.SourceRec.TheVariants.{Send}
use Rattle.migration_types.specs.declared.records.PagerRec.{PagerRec}
use Rattle.migration_types.specs.declared.records.PagerRec.TheVariants.{Place, Zero}
use Rattle.migration_types.specs.Memory.{page_of}
use Rattle.migration_types.specs.Receipts.{Name}
use Rattle.migration_types.specs.Sessions.{Recorded}
use Rattle.audit_model.specs.declared.home.Home.{Home}
use Rattle.audit_model.specs.declared.home.Home.TheVariants.{AtSource, Nowhere, AtTarget}
use Rattle.audit_model.specs.Flat.{flat}
use Rattle.audit_model.specs.Shape.{keeps}
use Rattle.audit_model.specs.World.{World, world_after, memory_at, guest_demand, source_demand, pager_demand, if_record, Demand, IsSafeOrder, IsFirstBroken}
use Rattle.plain_audit.specs.inner.DemandTests.{finds, value_at, is_source, is_source_page, guest_test, source_test, pager_test, demand_test}
use Rattle.audit_model.proofs.FirstNames.{stands_here}
use Rattle.audit_model.proofs.PageFaultTests.{not_true}
use Rattle.audit_model.proofs.Rearranged.{append_stands}

finds_somewhere : (h : Home) (r : Bool) → finds h r ≡ true → h ≢ Nowhere
finds_somewhere AtSource r e is = cc
finds_somewhere Nowhere r e is = cc
finds_somewhere AtTarget r e is = cc

finds_resident : (h : Home) (r : Bool) → finds h r ≡ true → h ≡ AtTarget → r ≡ true
finds_resident AtSource r e is = absurd (cc)
finds_resident Nowhere r e is = absurd (cc)
finds_resident AtTarget r e is = e

finds_from : (h : Home) (r : Bool) → h ≢ Nowhere → (h ≡ AtTarget → r ≡ true) → finds h r ≡ true
finds_from AtSource r some at = refl
finds_from Nowhere r some at = absurd (some refl)
finds_from AtTarget r some at = at refl

value_is : (h : Home) (w : World) (p c : ℕ) → value_at h (w.source p c) (w.target p c) ≡ memory_at h w p c
value_is AtSource w p c = refl
value_is Nowhere w p c = refl
value_is AtTarget w p c = refl

left : (h : Home) → Decides (not (is_source h)) (h ≢ AtSource)
left AtSource = (λ e is. cc, λ f. absurd (f refl))
left Nowhere = (λ e is. cc, λ f. refl)
left AtTarget = (λ e is. cc, λ f. refl)

always : Decides true (Unit {0})
always = (λ e. tt, λ u. refl)

guest_Decides : (s : Recorded) (w : World) (n : ℕ) (r : GuestRec) → Decides (guest_test s w n r) (guest_demand s n r w)
guest_Decides s w n (Read v p c x) = (
  λ e.
      let a = and_parts (finds w.home (w.resident p)) ((x == value_at w.home (w.source p c) (w.target p c)) && (x == flat s n p c)) e in
      let b = and_parts (x == value_at w.home (w.source p c) (w.target p c)) (x == flat s n p c) a.1 in
      record {
        is_somewhere = finds_somewhere w.home (w.resident p) a.0;
        is_resident = finds_resident w.home (w.resident p) a.0;
        is_the_cell = eqb-true _ _ b.0 ∙ value_is w.home w p c;
        is_flat = eqb-true _ _ b.1;
      },
  λ d. and_from (finds w.home (w.resident p)) ((x == value_at w.home (w.source p c) (w.target p c)) && (x == flat s n p c))
      (finds_from w.home (w.resident p) d.is_somewhere d.is_resident)
      (and_from (x == value_at w.home (w.source p c) (w.target p c)) (x == flat s n p c) (eq-eqb _ _ (d.is_the_cell ∙ sym (value_is w.home w p c))) (eq-eqb _ _ d.is_flat)),
)
guest_Decides s w n (Write v p c x) = (
  λ e. record { is_somewhere = finds_somewhere w.home (w.resident p) e; is_resident = finds_resident w.home (w.resident p) e },
  λ d. finds_from w.home (w.resident p) d.is_somewhere d.is_resident,
)
guest_Decides s w n r = always

source_Decides : (s : Recorded) (w : World) (r : SourceRec) → Decides (source_test s w r) (source_demand s r w)
source_Decides s w (Send p content) = (
  λ e.
      let a = and_parts (not (is_source w.home)) (not (w.ledger p) && is_source_page s w p content) e in
      let b = and_parts (not (w.ledger p)) (is_source_page s w p content) a.1 in
      record {
        has_left = (left w.home).0 a.0;
        is_the_page = (bytes_eq-Decides content (page_of s.geometry.cells w.source p)).0 b.1;
        is_owed = (not_true (w.ledger p)).0 b.0;
      },
  λ d. and_from (not (is_source w.home)) (not (w.ledger p) && is_source_page s w p content) ((left w.home).1 d.has_left)
      (and_from (not (w.ledger p)) (is_source_page s w p content) ((not_true (w.ledger p)).1 d.is_owed) ((bytes_eq-Decides content (page_of s.geometry.cells w.source p)).1 d.is_the_page)),
)
source_Decides s w r = always

pager_Decides : (s : Recorded) (w : World) (r : PagerRec) → Decides (pager_test s w r) (pager_demand s r w)
pager_Decides s w (Place p got content) = (
  λ e.
      let a = and_parts (not (w.placed p)) (not (w.touched p) && is_source_page s w p content) e in
      let b = and_parts (not (w.touched p)) (is_source_page s w p content) a.1 in
      record {
        is_new = (not_true (w.placed p)).0 a.0;
        is_untouched = (not_true (w.touched p)).0 b.0;
        is_the_page = (bytes_eq-Decides content (page_of s.geometry.cells w.source p)).0 b.1;
      },
  λ d. and_from (not (w.placed p)) (not (w.touched p) && is_source_page s w p content) ((not_true (w.placed p)).1 d.is_new)
      (and_from (not (w.touched p)) (is_source_page s w p content) ((not_true (w.touched p)).1 d.is_untouched) ((bytes_eq-Decides content (page_of s.geometry.cells w.source p)).1 d.is_the_page)),
)
pager_Decides s w (Zero p) = (
  λ e.
      let a = and_parts (not (w.placed p)) (not (w.touched p) && w.ledger p) e in
      let b = and_parts (not (w.touched p)) (w.ledger p) a.1 in
      record { is_new = (not_true (w.placed p)).0 a.0; is_untouched = (not_true (w.touched p)).0 b.0; is_released = b.1 },
  λ d. and_from (not (w.placed p)) (not (w.touched p) && w.ledger p) ((not_true (w.placed p)).1 d.is_new)
      (and_from (not (w.touched p)) (w.ledger p) ((not_true (w.touched p)).1 d.is_untouched) d.is_released),
)
pager_Decides s w r = always

pub demand_Decides : (s : Recorded) (w : World) (name : Name) → Decides (demand_test s w name) (Demand s name w)
demand_Decides s w (Guest, n) = go (slice_get s.guest n)
  where
    go : (o : Option GuestRec) → Decides (keeps (guest_test s w n) o) (if_record (guest_demand s n) o w)
    go None = always
    go (Some r) = guest_Decides s w n r
demand_Decides s w (Source, n) = go (slice_get s.source n)
  where
    go : (o : Option SourceRec) → Decides (keeps (source_test s w) o) (if_record (source_demand s) o w)
    go None = always
    go (Some r) = source_Decides s w r
demand_Decides s w (Link, n) = always
demand_Decides s w (Lane, n) = always
demand_Decides s w (Pager, n) = go (slice_get s.pager n)
  where
    go : (o : Option PagerRec) → Decides (keeps (pager_test s w) o) (if_record (pager_demand s) o w)
    go None = always
    go (Some r) = pager_Decides s w r

pub nothing_is_safe : (s : Recorded) → IsSafeOrder s []
nothing_is_safe s [] name stands = absurd (let e = stands.1 in cc)
nothing_is_safe s (x ∷ earlier) name stands = absurd (let e = stands.1 in cc)

safe_push : (s : Recorded) (past : List Name) (n : Name) → IsSafeOrder s past → Demand s n (world_after s past) → IsSafeOrder s (past ++ n ∷ [])
safe_push s past n safe demand earlier name stands = go (append_stands past (n ∷ []) earlier name stands.0 stands.1)
  where
    last : (k : List Name) → earlier ≡ past ++ k → n ∷ [] ≡ k ++ name ∷ stands.0 → Demand s name (world_after s earlier)
    last [] at is =
        let same : n ≡ name = cc in
        let all : past ++ [] ≡ past = append_nil past in
        subst (λ names. Demand s name (world_after s names)) (sym (at ∙ all)) (subst (λ k. Demand s k (world_after s past)) same demand)
      where
        append_nil : (xs : List Name) → xs ++ [] ≡ xs
        append_nil [] = refl
        append_nil (x ∷ xs) = ap (λ ys. x ∷ ys) (append_nil xs)
    last (x ∷ []) at is = absurd (cc)
    last (x ∷ y ∷ k) at is = absurd (cc)

    go : ((r : List Name) × (past ≡ earlier ++ name ∷ r)) ⊎ ((k : List Name) × (earlier ≡ past ++ k) × (n ∷ [] ≡ k ++ name ∷ stands.0)) → Demand s name (world_after s earlier)
    go (inl a) = safe earlier name (a.0, a.1)
    go (inr b) = last b.0 b.1 b.2

pub safe_more : (s : Recorded) (order : List Name) (at : ℕ) (d : Name) → at < length order → IsSafeOrder s (take at order) → Demand s (get_or order at d) (world_after s (take at order)) → IsSafeOrder s (take (at + 1) order)
safe_more s order at d lt safe demand = subst (λ names. IsSafeOrder s names) (sym (take_more order at d lt)) (safe_push s (take at order) (get_or order at d) safe demand)

pub safe_all : (s : Recorded) (order : List Name) (at : ℕ) → length order ≤ at → IsSafeOrder s (take at order) → IsSafeOrder s order
safe_all s order at le safe = subst (λ names. IsSafeOrder s names) (take_all at order le) safe

pub broken_here : (s : Recorded) (order : List Name) (at : ℕ) (d : Name) → at < length order → IsSafeOrder s (take at order) → (Demand s (get_or order at d) (world_after s (take at order)) → ⊥) → IsFirstBroken s order (get_or order at d)
broken_here s order at d lt safe breaks = record { earlier = take at order; stands = stands_here order at d lt; is_safe_before = safe; breaks = breaks }
