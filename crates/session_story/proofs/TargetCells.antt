-- A cell of the target's memory, from the placement that gives it a value on.
use Rattle.std.proofs.Common.{◌≡◌, ℕ, suc, ◌+◌, ◌<◌, ◌≤◌, Bool, true, false, cond, ◌==◌, ◌&&◌, List, [], ◌∷◌, length, Option, Some, None, refl, sym, ap, ◌∙◌, arith, eqb-true}
use Rattle.std.specs.Prelude.{slice_get, slice_index}
use Rattle.std.proofs.lemmas.Bool.{and_parts}
use Rattle.std.proofs.lemmas.Option.{get_or_from_slice_get}
use Rattle.migration_types.specs.declared.records.LogName.TheVariants.{Guest, Source, Link, Lane, Pager}
use Rattle.migration_types.specs.declared.records.GuestRec.{GuestRec}
use Rattle.migration_types.specs.declared.records.GuestRec.TheVariants.{Read, Write, Release, Miss, Halt, Resume, See}
use Rattle.migration_types.specs.declared.records.PagerRec.{PagerRec}
use Rattle.migration_types.specs.declared.records.PagerRec.TheVariants.{Got, Pull, Ready, Fault, Join, Want, Place, Zero, Skip, All}
use Rattle.migration_types.specs.Sessions.{Recorded}
use Rattle.migration_types.specs.Receipts.{Name}
use Rattle.audit_model.specs.Mergings.{Cursors, places_of}
use Rattle.audit_model.specs.declared.home.Home.{Home}
use Rattle.audit_model.specs.declared.home.Home.TheVariants.{AtSource, Nowhere, AtTarget}
use Rattle.audit_model.specs.Flat.{changed}
use Rattle.audit_model.specs.Shape.{passes, is_placement_of}
use Rattle.audit_model.specs.Walks.{next, cursors_from, Walks}
use Rattle.audit_model.specs.World.{World, step, guest_step, guest_step_at, pager_step, run_from}
use Rattle.audit_model.proofs.Consistent.{next_rises}
use Rattle.audit_model.proofs.Cuts.{cursor_count, cursor_next, same_log_itself}
use Rattle.session_story.specs.Values.{sets}
use Rattle.session_story.specs.Giving.{puts}

-- ---- what one record does to the cell

module _ (page cell : ℕ) where
  guest_quiet : (h : Home) (r : GuestRec) (w : World) → sets page cell r ≡ false → (guest_step_at h r w).target page cell ≡ w.target page cell
  guest_quiet AtSource (Read v p c x) w e = refl
  guest_quiet Nowhere (Read v p c x) w e = refl
  guest_quiet AtTarget (Read v p c x) w e = refl
  guest_quiet AtSource (Write v p c x) w e = refl
  guest_quiet Nowhere (Write v p c x) w e = refl
  guest_quiet AtTarget (Write v p c x) w e = go (w.resident p)
    where
      other : cond ((p == page) && (c == cell)) x (w.target page cell) ≡ w.target page cell
      other = ap (λ b. cond b x (w.target page cell)) e

      go : (b : Bool) → (cond b (λ (q d : ℕ). cond ((p == q) && (c == d)) x (w.target q d)) w.target) page cell ≡ w.target page cell
      go true = other
      go false = refl
  guest_quiet AtSource (Release v p) w e = refl
  guest_quiet Nowhere (Release v p) w e = refl
  guest_quiet AtTarget (Release v p) w e = ap (λ b. cond b 0 (w.target page cell)) e
  guest_quiet h (Miss v p) w e = refl
  guest_quiet h Halt w e = refl
  guest_quiet h (Resume k) w e = refl
  guest_quiet h (See k) w e = refl

  pager_quiet : (r : PagerRec) (w : World) → is_placement_of page r ≡ false → (pager_step r w).target page cell ≡ w.target page cell
  pager_quiet (Place p got content) w e = ap (λ b. cond b (slice_index content cell) (w.target page cell)) e
  pager_quiet (Zero p) w e = ap (λ b. cond b 0 (w.target page cell)) e
  pager_quiet (Got k) w e = refl
  pager_quiet (Pull k) w e = refl
  pager_quiet Ready w e = refl
  pager_quiet (Fault k) w e = refl
  pager_quiet (Join k) w e = refl
  pager_quiet (Want p) w e = refl
  pager_quiet (Skip k) w e = refl
  pager_quiet All w e = refl

  has_value : (value : ℕ) (o : Option ℕ) → passes (λ x. x == value) o ≡ true → o ≡ Some value
  has_value value None e = absurd (cc)
  has_value value (Some x) e = ap (λ y. Some y) (eqb-true x value e)

  pub pager_puts : (value : ℕ) (r : PagerRec) (w : World) → puts page cell value r ≡ true → (pager_step r w).target page cell ≡ value
  pager_puts value (Place p got content) w e =
      let parts = and_parts (p == page) (passes (λ x. x == value) (slice_get content cell)) e in
      ap (λ b. cond b (slice_index content cell) (w.target page cell)) parts.0
      ∙ get_or_from_slice_get content cell value 0 (has_value value (slice_get content cell) parts.1)
  pager_puts value (Zero p) w e =
      let parts = and_parts (p == page) (value == 0) e in
      ap (λ b. cond b 0 (w.target page cell)) parts.0 ∙ sym (eqb-true value 0 parts.1)
  pager_puts value (Got k) w e = absurd (cc)
  pager_puts value (Pull k) w e = absurd (cc)
  pager_puts value Ready w e = absurd (cc)
  pager_puts value (Fault k) w e = absurd (cc)
  pager_puts value (Join k) w e = absurd (cc)
  pager_puts value (Want p) w e = absurd (cc)
  pager_puts value (Skip k) w e = absurd (cc)
  pager_puts value All w e = absurd (cc)

  pub puts_places : (value : ℕ) (r : PagerRec) → puts page cell value r ≡ true → is_placement_of page r ≡ true
  puts_places value (Place p got content) e = (and_parts (p == page) (passes (λ x. x == value) (slice_get content cell)) e).0
  puts_places value (Zero p) e = (and_parts (p == page) (value == 0) e).0
  puts_places value (Got k) e = absurd (cc)
  puts_places value (Pull k) e = absurd (cc)
  puts_places value Ready e = absurd (cc)
  puts_places value (Fault k) e = absurd (cc)
  puts_places value (Join k) e = absurd (cc)
  puts_places value (Want p) e = absurd (cc)
  puts_places value (Skip k) e = absurd (cc)
  puts_places value All e = absurd (cc)

module _ (s : Recorded) (page cell : ℕ) where
  -- this record leaves the cell alone
  abbrev pub IsQuiet : Name → Type 0
  IsQuiet (Guest, m) = (r : GuestRec) → slice_get s.guest m ≡ Some r → sets page cell r ≡ false
  IsQuiet (Source, m) = Unit {0}
  IsQuiet (Link, m) = Unit {0}
  IsQuiet (Lane, m) = Unit {0}
  IsQuiet (Pager, m) = (r : PagerRec) → slice_get s.pager m ≡ Some r → is_placement_of page r ≡ false

  quiet_step : (name : Name) (w : World) → IsQuiet name → (step s name w).target page cell ≡ w.target page cell
  quiet_step (Guest, m) w quiet = go (slice_get s.guest m) refl
    where
      go : (o : Option GuestRec) → slice_get s.guest m ≡ o → (changed guest_step o w).target page cell ≡ w.target page cell
      go None is = refl
      go (Some r) is = guest_quiet page cell w.home r w (quiet r is)
  quiet_step (Source, m) w quiet = refl
  quiet_step (Link, m) w quiet = refl
  quiet_step (Lane, m) w quiet = refl
  quiet_step (Pager, m) w quiet = go (slice_get s.pager m) refl
    where
      go : (o : Option PagerRec) → slice_get s.pager m ≡ o → (changed pager_step o w).target page cell ≡ w.target page cell
      go None is = refl
      go (Some r) is = pager_quiet page cell r w (quiet r is)

  -- and so do these records, one after the other
  pub quiet_run : (c : Cursors) (names : List Name) (w : World) → Walks s c names → ((name : Name) → c name.0 ≤ name.1 → name.1 < cursors_from c names name.0 → IsQuiet name) → (run_from s w names).target page cell ≡ w.target page cell
  quiet_run c [] w walks quiet = refl
  quiet_run c (x ∷ names) w walks quiet =
      let is = walks.0.is_next in
      let up : cursors_from (next c x.0) names x.0 ≡ next c x.0 x.0 + length (places_of x.0 names) = cursor_count (next c x.0) names x.0 in
      let one : next c x.0 x.0 ≡ suc (c x.0) = cursor_next c x.0 x.0 ∙ ap (λ b. cond b (suc (c x.0)) (c x.0)) (same_log_itself x.0) in
      quiet_run (next c x.0) names (step s x w) walks.1 (λ name le lt. quiet name (omega (arith, le, next_rises c x.0 name.0)) lt)
      ∙ quiet_step x w (quiet x (omega (arith, is)) (omega (arith, is, up, one)))

  -- a placement gives the cell its value, and the records after it leave it alone
  pub given_run : (q value : ℕ) (by : PagerRec) → slice_get s.pager q ≡ Some by → puts page cell value by ≡ true → (c : Cursors) (names : List Name) (w : World) → Walks s c names → ((name : Name) → c name.0 ≤ name.1 → name.1 < cursors_from c names name.0 → IsQuiet name) → (run_from s (step s (Pager, q) w) names).target page cell ≡ value
  given_run q value by stands puts_it c names w walks quiet =
      quiet_run c names (step s (Pager, q) w) walks quiet
      ∙ ap (λ o. (changed pager_step o w).target page cell) stands
      ∙ pager_puts page cell value by w puts_it
