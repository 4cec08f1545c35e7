-- The tests of demands are the demands.
use Rattle.std.proofs.Common.{◌≡◌, ◌≢◌, ℕ, Bool, true, false, not, ◌&&◌, refl, sym, ap, eqb-true, eq-eqb}
use Rattle.std.specs.Prelude.{◌==◌}
use Rattle.std.specs.Str.{bytes_eq}
use Rattle.std.proofs.lemmas.Bool.{and_parts, and_from}
use Rattle.std.proofs.lemmas.Slice.Eq.{bytes_eq-Decides}
use Rattle.migration_types.specs.declared.records.GuestRec.{GuestRec}
use Rattle.migration_types.specs.declared.records.GuestRec.TheVariants.{Read, Write, Release, Miss, Halt, Resume, See}
use Rattle.migration_types.specs.declared.records.SourceRec.{SourceRec}
use Rattle.migration_types.specs.declared.records.SourceRec.TheVariants.{Halted, State, Send, Again, Ask, Done, Back}
use Rattle.migration_types.specs.declared.records.PagerRec.{PagerRec}
use Rattle.migration_types.specs.declared.records.PagerRec.TheVariants.{Got, Pull, Ready, Fault, Join, Want, Place, Zero, Skip, All}
use Rattle.migration_types.specs.Memory.{page_of}
use Rattle.migration_types.specs.Sessions.{Recorded}
use Rattle.audit_model.specs.declared.home.Home.{Home}
use Rattle.audit_model.specs.declared.home.Home.TheVariants.{AtSource, Nowhere, AtTarget}
use Rattle.audit_model.specs.Flat.{flat}
use Rattle.audit_model.specs.World.{World, memory_at, guest_demand, source_demand, pager_demand}
use Rattle.merge_runs.specs.inner.Demands.{finds, has_left, is_open, guest_met, source_met, pager_met}

not_true : (b : Bool) → not b ≡ true → b ≡ false
not_true true e = absurd (cc)
not_true false e = refl

-- the guest is somewhere, and its page is resident at the target
finds_yes : (h : Home) (resident : Bool) → finds h resident ≡ true → (h ≢ Nowhere) × (h ≡ AtTarget → resident ≡ true)
finds_yes AtSource resident e = (λ f. absurd (cc), λ f. absurd (cc))
finds_yes Nowhere resident e = absurd (cc)
finds_yes AtTarget resident e = (λ f. absurd (cc), λ f. e)

finds_from : (h : Home) (resident : Bool) → h ≢ Nowhere → (h ≡ AtTarget → resident ≡ true) → finds h resident ≡ true
finds_from AtSource resident somewhere there = refl
finds_from Nowhere resident somewhere there = absurd (somewhere refl)
finds_from AtTarget resident somewhere there = there refl

left_yes : (h : Home) → has_left h ≡ true → h ≢ AtSource
left_yes AtSource e = absurd (cc)
left_yes Nowhere e = λ f. absurd (cc)
left_yes AtTarget e = λ f. absurd (cc)

left_from : (h : Home) → h ≢ AtSource → has_left h ≡ true
left_from AtSource left = absurd (left refl)
left_from Nowhere left = refl
left_from AtTarget left = refl

pub guest_yes : (s : Recorded) (n : ℕ) (r : GuestRec) (w : World) → guest_met (flat s n) r w ≡ true → guest_demand s n r w
guest_yes s n (Read v p c x) w e =
    let both = and_parts (finds w.home (w.resident p) && (memory_at w.home w p c == x)) (flat s n p c == x) e in
    let here = and_parts (finds w.home (w.resident p)) (memory_at w.home w p c == x) both.0 in
    let found = finds_yes w.home (w.resident p) here.0 in
    record {
      is_somewhere = found.0;
      is_resident = found.1;
      is_the_cell = sym (eqb-true (memory_at w.home w p c) x here.1);
      is_flat = sym (eqb-true (flat s n p c) x both.1);
    }
guest_yes s n (Write v p c x) w e = let found = finds_yes w.home (w.resident p) e in record { is_somewhere = found.0; is_resident = found.1 }
guest_yes s n (Release v p) w e = tt
guest_yes s n (Miss v p) w e = tt
guest_yes s n Halt w e = tt
guest_yes s n (Resume i) w e = tt
guest_yes s n (See k) w e = tt

pub guest_from : (s : Recorded) (n : ℕ) (r : GuestRec) (w : World) → guest_demand s n r w → guest_met (flat s n) r w ≡ true
guest_from s n (Read v p c x) w d = and_from _ _ (and_from _ _ (finds_from w.home (w.resident p) d.is_somewhere d.is_resident) (eq-eqb (memory_at w.home w p c) x (sym d.is_the_cell))) (eq-eqb (flat s n p c) x (sym d.is_flat))
guest_from s n (Write v p c x) w d = finds_from w.home (w.resident p) d.is_somewhere d.is_resident
guest_from s n (Release v p) w d = refl
guest_from s n (Miss v p) w d = refl
guest_from s n Halt w d = refl
guest_from s n (Resume i) w d = refl
guest_from s n (See k) w d = refl

pub source_yes : (s : Recorded) (r : SourceRec) (w : World) → source_met s.geometry.cells r w ≡ true → source_demand s r w
source_yes s (Send p content) w e =
    let both = and_parts (has_left w.home && not (w.ledger p)) (bytes_eq content (page_of s.geometry.cells w.source p)) e in
    let first = and_parts (has_left w.home) (not (w.ledger p)) both.0 in
    record {
      has_left = left_yes w.home first.0;
      is_the_page = (bytes_eq-Decides content (page_of s.geometry.cells w.source p)).0 both.1;
      is_owed = not_true (w.ledger p) first.1;
    }
source_yes s (Halted h) w e = tt
source_yes s State w e = tt
source_yes s (Again i) w e = tt
source_yes s (Ask i) w e = tt
source_yes s Done w e = tt
source_yes s Back w e = tt

pub source_from : (s : Recorded) (r : SourceRec) (w : World) → source_demand s r w → source_met s.geometry.cells r w ≡ true
source_from s (Send p content) w d = and_from _ _ (and_from _ _ (left_from w.home d.has_left) (ap (λ b. not b) d.is_owed)) ((bytes_eq-Decides content (page_of s.geometry.cells w.source p)).1 d.is_the_page)
source_from s (Halted h) w d = refl
source_from s State w d = refl
source_from s (Again i) w d = refl
source_from s (Ask i) w d = refl
source_from s Done w d = refl
source_from s Back w d = refl

pub pager_yes : (s : Recorded) (r : PagerRec) (w : World) → pager_met s.geometry.cells r w ≡ true → pager_demand s r w
pager_yes s (Place p got content) w e =
    let both = and_parts (is_open w p) (bytes_eq content (page_of s.geometry.cells w.source p)) e in
    let first = and_parts (not (w.placed p)) (not (w.touched p)) both.0 in
    record {
      is_new = not_true (w.placed p) first.0;
      is_untouched = not_true (w.touched p) first.1;
      is_the_page = (bytes_eq-Decides content (page_of s.geometry.cells w.source p)).0 both.1;
    }
pager_yes s (Zero p) w e =
    let both = and_parts (is_open w p) (w.ledger p) e in
    let first = and_parts (not (w.placed p)) (not (w.touched p)) both.0 in
    record { is_new = not_true (w.placed p) first.0; is_untouched = not_true (w.touched p) first.1; is_released = both.1 }
pager_yes s (Got d) w e = tt
pager_yes s (Pull d) w e = tt
pager_yes s Ready w e = tt
pager_yes s (Fault i) w e = tt
pager_yes s (Join i) w e = tt
pager_yes s (Want p) w e = tt
pager_yes s (Skip g) w e = tt
pager_yes s All w e = tt

pub pager_from : (s : Recorded) (r : PagerRec) (w : World) → pager_demand s r w → pager_met s.geometry.cells r w ≡ true
pager_from s (Place p got content) w d = and_from _ _ (and_from _ _ (ap (λ b. not b) d.is_new) (ap (λ b. not b) d.is_untouched)) ((bytes_eq-Decides content (page_of s.geometry.cells w.source p)).1 d.is_the_page)
pager_from s (Zero p) w d = and_from _ _ (and_from _ _ (ap (λ b. not b) d.is_new) (ap (λ b. not b) d.is_untouched)) d.is_released
pager_from s (Got d2) w d = refl
pager_from s (Pull d2) w d = refl
pager_from s Ready w d = refl
pager_from s (Fault i) w d = refl
pager_from s (Join i) w d = refl
pager_from s (Want p) w d = refl
pager_from s (Skip g) w d = refl
pager_from s All w d = refl
