-- The world after a merging's records is a function of the cursors, but for the target's absent pages.
use Rattle.std.proofs.Common.{◌≡◌, ◌≢◌, ℕ, zero, suc, ◌+◌, ◌<◌, Bool, true, false, ◌&&◌, ◌||◌, cond, List, map, Some, refl, sym, ap, ◌∙◌, arith, eqb-true}
use Rattle.std.specs.Prelude.{slice_get, slice_index, ◌==◌}
use Rattle.std.specs.List.{range_with_len}
use Rattle.migration_types.specs.declared.records.GuestRec.{GuestRec}
use Rattle.migration_types.specs.declared.records.GuestRec.TheVariants.{Read, Write, Release, Miss, Halt, Resume, See}
use Rattle.migration_types.specs.declared.records.PagerRec.{PagerRec}
use Rattle.migration_types.specs.declared.records.PagerRec.TheVariants.{Got, Pull, Ready, Fault, Join, Want, Place, Zero, Skip, All}
use Rattle.migration_types.specs.Sessions.{Recorded}
use Rattle.migration_types.specs.Memory.{Memory, page_of}
use Rattle.audit_model.specs.Flat.{changed, cell_after, flat, freed, freed_after, released_after, in_ledger, Home, AtSource, Nowhere, AtTarget, home_after, home, at_halt}
use Rattle.migration_types.specs.Memory.{with_content, with_zeros, with_cell}
use Rattle.migration_types.specs.PageSets.{with_page}
use Rattle.audit_model.specs.World.{World, start, guest_step_at, pager_step}
use Rattle.audit_model.specs.Shape.{IsRightShape, is_placement_of}
use Rattle.audit_model.proofs.History.{AtSource≢Nowhere, AtSource≢AtTarget, Nowhere≢AtTarget, home_at_read, home_at_write, home_at_release, home_at_resume, home_at_halt, halt_is_at_halt}
use Rattle.audit_model.specs.Worlds.{come_to, touched, touch_after, placed_before, resident_before, IsWorld}
use Rattle.audit_model.proofs.Touched.{flat_kept, released_zero}
use Rattle.audit_model.proofs.Entries.{itself}

-- the target's memory on placed pages is that of the flat machine
abbrev pub IsFlatAtTarget : Recorded → ℕ → ℕ → World → Type 0
IsFlatAtTarget s g p w = (q d : ℕ) → d < s.geometry.cells → resident_before s g p q ≡ true → w.target q d ≡ flat s g q d

pub start_is : (s : Recorded) → IsWorld s AtSource 0 0 (start s)
start_is s = record {
  home_is = refl;
  source_is = λ q d. refl;
  ledger_is = λ q. refl;
  touched_is = λ q. refl;
  placed_is = λ q. refl;
  resident_is = λ q. refl;
}

pub start_is_flat : (s : Recorded) → IsFlatAtTarget s 0 0 (start s)
start_is_flat s q d lt e = absurd (cc)

module _ (s : Recorded) (shape : IsRightShape s) (g p : ℕ) where
  -- a guest record of a kind that changes nothing
  idle : (h : Home) (w : World) (r : GuestRec) → slice_get s.guest g ≡ Some r → home s g ≡ h → ((q d x : ℕ) → cell_after q d r x ≡ x) → ((q : ℕ) (b : Bool) → released_after q r b ≡ b) → ((q : ℕ) (b : Bool) → touch_after h q r b ≡ b) → ((q : ℕ) (b : Bool) → freed_after h q r b ≡ b) → IsWorld s h g p w → IsWorld s h (suc g) p w
  idle h w r is at cell released touch free i = record {
    home_is = i.home_is;
    source_is = λ q d. i.source_is q d ∙ come q d h;
    ledger_is = λ q. i.ledger_is q ∙ given q h;
    touched_is = λ q. i.touched_is q ∙ sym (ap (λ o. changed (touch_after (home s g) q) o (touched s g q)) is ∙ ap (λ k. touch_after k q r (touched s g q)) at ∙ touch q (touched s g q));
    placed_is = i.placed_is;
    resident_is = λ q. i.resident_is q ∙ sym (ap (λ b. placed_before s p q || b) (ap (λ o. changed (freed_after (home s g) q) o (freed s g q)) is ∙ ap (λ k. freed_after k q r (freed s g q)) at ∙ free q (freed s g q)));
  }
    where
      next : (q d : ℕ) → flat s (suc g) q d ≡ flat s g q d
      next q d = ap (λ o. changed (cell_after q d) o (flat s g q d)) is ∙ cell q d (flat s g q d)

      next_ledger : (q : ℕ) → in_ledger s (suc g) q ≡ in_ledger s g q
      next_ledger q = ap (λ o. changed (released_after q) o (in_ledger s g q)) is ∙ released q (in_ledger s g q)

      come : (q d : ℕ) (h : Home) → flat s (come_to h g (at_halt s)) q d ≡ flat s (come_to h (suc g) (at_halt s)) q d
      come q d AtSource = sym (next q d)
      come q d Nowhere = refl
      come q d AtTarget = refl

      given : (q : ℕ) (h : Home) → in_ledger s (come_to h g (at_halt s)) q ≡ in_ledger s (come_to h (suc g) (at_halt s)) q
      given q AtSource = sym (next_ledger q)
      given q Nowhere = refl
      given q AtTarget = refl

page_at : (f : ℕ → ℕ) (n a d : ℕ) → d < n → slice_index (map f (range_with_len a n)) d ≡ f (a + d)
page_at f zero a d lt = absurd (omega arith)
page_at f (suc n) a zero lt = ap f (omega arith)
page_at f (suc n) a (suc d) lt = let e : (a + 1) + d ≡ a + suc d = omega arith in page_at f n (a + 1) d (omega arith) ∙ ap f e

pub content_at : (memory : Memory) (cells page d : ℕ) → d < cells → slice_index (page_of cells memory page) d ≡ memory page d
content_at memory cells page d lt = let e : 0 + d ≡ d = omega arith in page_at (memory page) cells 0 d lt ∙ ap (memory page) e

cond_or : (b x : Bool) → cond b true x ≡ (b || x)
cond_or true x = refl
cond_or false x = refl

cond_or_right : (b x y : Bool) → cond b true (x || y) ≡ (x || cond b true y)
cond_or_right true true y = refl
cond_or_right true false y = refl
cond_or_right false x y = refl

cond_or_left : (b x y : Bool) → cond b true (x || y) ≡ (cond b true x || y)
cond_or_left true x y = refl
cond_or_left false x y = refl

module _ (s : Recorded) (shape : IsRightShape s) (g p : ℕ) where
  flat_next : (r : GuestRec) → slice_get s.guest g ≡ Some r → (q d : ℕ) → flat s (suc g) q d ≡ cell_after q d r (flat s g q d)
  flat_next r is q d = ap (λ o. changed (cell_after q d) o (flat s g q d)) is

  ledger_next : (r : GuestRec) → slice_get s.guest g ≡ Some r → (q : ℕ) → in_ledger s (suc g) q ≡ released_after q r (in_ledger s g q)
  ledger_next r is q = ap (λ o. changed (released_after q) o (in_ledger s g q)) is

  touched_next : (r : GuestRec) → slice_get s.guest g ≡ Some r → (h : Home) → home s g ≡ h → (q : ℕ) → touched s (suc g) q ≡ touch_after h q r (touched s g q)
  touched_next r is h at q = ap (λ o. changed (touch_after (home s g) q) o (touched s g q)) is ∙ ap (λ k. touch_after k q r (touched s g q)) at

  freed_next : (r : GuestRec) → slice_get s.guest g ≡ Some r → (h : Home) → home s g ≡ h → (q : ℕ) → freed s (suc g) q ≡ freed_after h q r (freed s g q)
  freed_next r is h at q = ap (λ o. changed (freed_after (home s g) q) o (freed s g q)) is ∙ ap (λ k. freed_after k q r (freed s g q)) at

  resident_next : (r : GuestRec) → slice_get s.guest g ≡ Some r → (h : Home) → home s g ≡ h → (q : ℕ) → resident_before s (suc g) p q ≡ (placed_before s p q || freed_after h q r (freed s g q))
  resident_next r is h at q = ap (λ b. placed_before s p q || b) (freed_next r is h at q)

  -- a guest record keeps the world a function of the cursors, where what it asks holds
  pub guest_kept : (h : Home) (w : World) (r : GuestRec) → slice_get s.guest g ≡ Some r → home s g ≡ h → IsWorld s h g p w → IsWorld s (home_after r h) (suc g) p (guest_step_at h r w)
  guest_kept AtSource w (Read v a c x) is at i = idle s shape g p AtSource w (Read v a c x) is at (λ q d x. refl) (λ q b. refl) (λ q b. refl) (λ q b. refl) i
  guest_kept Nowhere w (Read v a c x) is at i = absurd (home_at_read s shape g v a c x is at)
  guest_kept AtTarget w (Read v a c x) is at i = record {
    home_is = i.home_is;
    source_is = i.source_is;
    ledger_is = i.ledger_is;
    touched_is = λ q. ap (λ b. cond (a == q) true b) (i.touched_is q) ∙ sym (touched_next (Read v a c x) is AtTarget at q);
    placed_is = i.placed_is;
    resident_is = λ q. i.resident_is q ∙ sym (resident_next (Read v a c x) is AtTarget at q);
  }
  guest_kept AtSource w (Write v a c x) is at i = record {
    home_is = i.home_is;
    source_is = λ q d. ap (λ y. cond ((a == q) && (c == d)) x y) (i.source_is q d) ∙ sym (flat_next (Write v a c x) is q d);
    ledger_is = λ q. ap (λ b. cond (a == q) false b) (i.ledger_is q) ∙ sym (ledger_next (Write v a c x) is q);
    touched_is = λ q. i.touched_is q ∙ sym (touched_next (Write v a c x) is AtSource at q);
    placed_is = i.placed_is;
    resident_is = λ q. i.resident_is q ∙ sym (resident_next (Write v a c x) is AtSource at q);
  }
  guest_kept Nowhere w (Write v a c x) is at i = absurd (home_at_write s shape g v a c x is at)
  guest_kept AtTarget w (Write v a c x) is at i = record {
    home_is = i.home_is;
    source_is = i.source_is;
    ledger_is = i.ledger_is;
    touched_is = λ q. ap (λ b. cond (a == q) true b) (i.touched_is q) ∙ sym (touched_next (Write v a c x) is AtTarget at q);
    placed_is = i.placed_is;
    resident_is = λ q. i.resident_is q ∙ sym (resident_next (Write v a c x) is AtTarget at q);
  }
  guest_kept AtSource w (Release v a) is at i = record {
    home_is = i.home_is;
    source_is = λ q d. ap (λ y. cond (a == q) 0 y) (i.source_is q d) ∙ sym (flat_next (Release v a) is q d);
    ledger_is = λ q. ap (λ b. cond (a == q) true b) (i.ledger_is q) ∙ sym (ledger_next (Release v a) is q);
    touched_is = λ q. i.touched_is q ∙ sym (touched_next (Release v a) is AtSource at q);
    placed_is = i.placed_is;
    resident_is = λ q. i.resident_is q ∙ sym (resident_next (Release v a) is AtSource at q);
  }
  guest_kept Nowhere w (Release v a) is at i = absurd (home_at_release s shape g v a is at)
  guest_kept AtTarget w (Release v a) is at i = record {
    home_is = i.home_is;
    source_is = i.source_is;
    ledger_is = i.ledger_is;
    touched_is = λ q. ap (λ b. cond (a == q) true b) (i.touched_is q) ∙ sym (touched_next (Release v a) is AtTarget at q);
    placed_is = i.placed_is;
    resident_is = λ q. ap (λ b. cond (a == q) true b) (i.resident_is q) ∙ cond_or_right (a == q) (placed_before s p q) (freed s g q) ∙ sym (resident_next (Release v a) is AtTarget at q);
  }
  guest_kept AtSource w Halt is at i = record {
    home_is = refl;
    source_is = λ q d. i.source_is q d ∙ ap (λ k. flat s k q d) (sym (halt_is_at_halt s shape g is));
    ledger_is = λ q. i.ledger_is q ∙ ap (λ k. in_ledger s k q) (sym (halt_is_at_halt s shape g is));
    touched_is = λ q. i.touched_is q ∙ sym (touched_next Halt is AtSource at q);
    placed_is = i.placed_is;
    resident_is = λ q. i.resident_is q ∙ sym (resident_next Halt is AtSource at q);
  }
  guest_kept Nowhere w Halt is at i = absurd (AtSource≢Nowhere (sym (home_at_halt s shape g is) ∙ at))
  guest_kept AtTarget w Halt is at i = absurd (AtSource≢AtTarget (sym (home_at_halt s shape g is) ∙ at))
  guest_kept AtSource w (Resume k) is at i = absurd (AtSource≢Nowhere (sym at ∙ home_at_resume s shape g k is))
  guest_kept Nowhere w (Resume k) is at i = record {
    home_is = refl;
    source_is = i.source_is;
    ledger_is = i.ledger_is;
    touched_is = λ q. i.touched_is q ∙ sym (touched_next (Resume k) is Nowhere at q);
    placed_is = i.placed_is;
    resident_is = λ q. i.resident_is q ∙ sym (resident_next (Resume k) is Nowhere at q);
  }
  guest_kept AtTarget w (Resume k) is at i = absurd (Nowhere≢AtTarget (sym (home_at_resume s shape g k is) ∙ at))
  guest_kept h w (Miss v a) is at i = idle s shape g p h w (Miss v a) is at (λ q d x. refl) (λ q b. refl) (λ q b. refl) (λ q b. refl) i
  guest_kept h w (See k) is at i = idle s shape g p h w (See k) is at (λ q d x. refl) (λ q b. refl) (λ q b. refl) (λ q b. refl) i

  placed_next : (r : PagerRec) → slice_get s.pager p ≡ Some r → (q : ℕ) → placed_before s (suc p) q ≡ (is_placement_of q r || placed_before s p q)
  placed_next r is q = ap (λ o. changed (λ x found. is_placement_of q x || found) o (placed_before s p q)) is

  pager_idle : (h : Home) (w : World) (r : PagerRec) → slice_get s.pager p ≡ Some r → ((q : ℕ) → is_placement_of q r ≡ false) → IsWorld s h g p w → IsWorld s h g (suc p) w
  pager_idle h w r is others i = record {
    home_is = i.home_is;
    source_is = i.source_is;
    ledger_is = i.ledger_is;
    touched_is = i.touched_is;
    placed_is = λ q. i.placed_is q ∙ same q;
    resident_is = λ q. i.resident_is q ∙ ap (λ b. b || freed s g q) (same q);
  }
    where
      same : (q : ℕ) → placed_before s p q ≡ placed_before s (suc p) q
      same q = sym (placed_next r is q ∙ ap (λ b. b || placed_before s p q) (others q))

  more : (r : PagerRec) (a : ℕ) → slice_get s.pager p ≡ Some r → ((q : ℕ) → is_placement_of q r ≡ (a == q)) → (q : ℕ) → cond (a == q) true (placed_before s p q) ≡ placed_before s (suc p) q
  more r a is of q = cond_or (a == q) (placed_before s p q) ∙ sym (placed_next r is q ∙ ap (λ b. b || placed_before s p q) (of q))

  placement_kept : (h : Home) (w : World) (r : PagerRec) (a : ℕ) → slice_get s.pager p ≡ Some r → ((q : ℕ) → is_placement_of q r ≡ (a == q)) → (t : Memory) → IsWorld s h g p w → IsWorld s h g (suc p) (record w { target = t; resident = with_page a w.resident; placed = with_page a w.placed })
  placement_kept h w r a is of t i = record {
    home_is = i.home_is;
    source_is = i.source_is;
    ledger_is = i.ledger_is;
    touched_is = i.touched_is;
    placed_is = λ q. ap (λ b. cond (a == q) true b) (i.placed_is q) ∙ more r a is of q;
    resident_is = λ q. ap (λ b. cond (a == q) true b) (i.resident_is q) ∙ cond_or_left (a == q) (placed_before s p q) (freed s g q) ∙ ap (λ b. b || freed s g q) (more r a is of q);
  }

  pub pager_kept : (h : Home) (w : World) (r : PagerRec) → slice_get s.pager p ≡ Some r → IsWorld s h g p w → IsWorld s h g (suc p) (pager_step r w)
  pager_kept h w (Place a got content) is i = placement_kept h w (Place a got content) a is (λ q. refl) (with_content a content w.target) i
  pager_kept h w (Zero a) is i = placement_kept h w (Zero a) a is (λ q. refl) (with_zeros a w.target) i
  pager_kept h w (Got k) is i = pager_idle h w (Got k) is (λ q. refl) i
  pager_kept h w (Pull k) is i = pager_idle h w (Pull k) is (λ q. refl) i
  pager_kept h w Ready is i = pager_idle h w Ready is (λ q. refl) i
  pager_kept h w (Fault k) is i = pager_idle h w (Fault k) is (λ q. refl) i
  pager_kept h w (Join k) is i = pager_idle h w (Join k) is (λ q. refl) i
  pager_kept h w (Want k) is i = pager_idle h w (Want k) is (λ q. refl) i
  pager_kept h w (Skip k) is i = pager_idle h w (Skip k) is (λ q. refl) i
  pager_kept h w All is i = pager_idle h w All is (λ q. refl) i

  -- a guest record keeps the target flat where a written page is resident, and nothing is resident before the halt
  pub guest_keeps_flat : (h : Home) (w : World) (r : GuestRec) → slice_get s.guest g ≡ Some r → home s g ≡ h → ((q : ℕ) → resident_before s g p q ≡ true → h ≢ AtSource) → ((v q c x : ℕ) → r ≡ Write v q c x → h ≡ AtTarget → w.resident q ≡ true) → IsFlatAtTarget s g p w → IsFlatAtTarget s (suc g) p (guest_step_at h r w)
  guest_keeps_flat h w r is at late res i q d lt e = go h r is at late res (resident_next r is h at q) e
    where
      go : (h : Home) (r : GuestRec) → slice_get s.guest g ≡ Some r → home s g ≡ h → ((q : ℕ) → resident_before s g p q ≡ true → h ≢ AtSource) → ((v q c x : ℕ) → r ≡ Write v q c x → h ≡ AtTarget → w.resident q ≡ true) → resident_before s (suc g) p q ≡ (placed_before s p q || freed_after h q r (freed s g q)) → resident_before s (suc g) p q ≡ true → (guest_step_at h r w).target q d ≡ flat s (suc g) q d
      go Nowhere (Read v a c x) is at late res f e = absurd (home_at_read s shape g v a c x is at)
      go AtSource (Read v a c x) is at late res f e = absurd (late q (sym f ∙ e) refl)
      go AtTarget (Read v a c x) is at late res f e = i q d lt (sym f ∙ e) ∙ sym (flat_next (Read v a c x) is q d)
      go Nowhere (Write v a c x) is at late res f e = absurd (home_at_write s shape g v a c x is at)
      go AtSource (Write v a c x) is at late res f e = absurd (late q (sym f ∙ e) refl)
      go AtTarget (Write v a c x) is at late res f e =
          ap (λ b. cond b (with_cell a c x w.target) w.target q d) (res v a c x refl refl)
          ∙ ap (λ y. cond ((a == q) && (c == d)) x y) (i q d lt (sym f ∙ e))
          ∙ sym (flat_next (Write v a c x) is q d)
      go Nowhere (Release v a) is at late res f e = absurd (home_at_release s shape g v a is at)
      go AtSource (Release v a) is at late res f e = absurd (late q (sym f ∙ e) refl)
      go AtTarget (Release v a) is at late res f e = zeros (a == q) refl (sym f ∙ e) ∙ sym (flat_next (Release v a) is q d)
        where
          zeros : (b : Bool) → (a == q) ≡ b → (placed_before s p q || cond b true (freed s g q)) ≡ true → cond b 0 (w.target q d) ≡ cond b 0 (flat s g q d)
          zeros true same e = refl
          zeros false same e = i q d lt e
      go AtSource (Miss v a) is at late res f e = absurd (late q (sym f ∙ e) refl)
      go Nowhere (Miss v a) is at late res f e = i q d lt (sym f ∙ e) ∙ sym (flat_next (Miss v a) is q d)
      go AtTarget (Miss v a) is at late res f e = i q d lt (sym f ∙ e) ∙ sym (flat_next (Miss v a) is q d)
      go AtSource (See k) is at late res f e = absurd (late q (sym f ∙ e) refl)
      go Nowhere (See k) is at late res f e = i q d lt (sym f ∙ e) ∙ sym (flat_next (See k) is q d)
      go AtTarget (See k) is at late res f e = i q d lt (sym f ∙ e) ∙ sym (flat_next (See k) is q d)
      go AtSource Halt is at late res f e = absurd (late q (sym f ∙ e) refl)
      go Nowhere Halt is at late res f e = i q d lt (sym f ∙ e) ∙ sym (flat_next Halt is q d)
      go AtTarget Halt is at late res f e = i q d lt (sym f ∙ e) ∙ sym (flat_next Halt is q d)
      go AtSource (Resume k) is at late res f e = absurd (late q (sym f ∙ e) refl)
      go Nowhere (Resume k) is at late res f e = i q d lt (sym f ∙ e) ∙ sym (flat_next (Resume k) is q d)
      go AtTarget (Resume k) is at late res f e = i q d lt (sym f ∙ e) ∙ sym (flat_next (Resume k) is q d)

  -- a placement of page a, whose cells are the flat ones at the halt
  placement_keeps_flat : (h : Home) (w : World) (r : PagerRec) (a : ℕ) (cell : ℕ → ℕ) → slice_get s.pager p ≡ Some r → ((q : ℕ) → is_placement_of q r ≡ (a == q)) → home s g ≡ h → h ≢ AtSource → touched s g a ≡ false → ((d : ℕ) → d < s.geometry.cells → cell d ≡ flat s (at_halt s) a d) → IsFlatAtTarget s g p w → (q d : ℕ) → d < s.geometry.cells → resident_before s g (suc p) q ≡ true → cond (a == q) (cell d) (w.target q d) ≡ flat s g q d
  placement_keeps_flat h w r a cell is of at left free cells i q d lt e = go (a == q) refl (ap (λ b. b || freed s g q) (more r a is of q) ∙ e)
    where
      go : (b : Bool) → (a == q) ≡ b → (cond b true (placed_before s p q) || freed s g q) ≡ true → cond b (cell d) (w.target q d) ≡ flat s g q d
      go true same e =
          let k : a ≡ q = eqb-true a q same in
          cells d lt ∙ sym (flat_kept s shape g a d (λ f. left (sym at ∙ f)) free) ∙ ap (λ k. flat s g k d) k
      go false same e = i q d lt e

  idle_keeps_flat : (w : World) (r : PagerRec) → slice_get s.pager p ≡ Some r → ((q : ℕ) → is_placement_of q r ≡ false) → IsFlatAtTarget s g p w → IsFlatAtTarget s g (suc p) w
  idle_keeps_flat w r is others i q d lt e = i q d lt (ap (λ b. b || freed s g q) (sym (placed_next r is q ∙ ap (λ b. b || placed_before s p q) (others q))) ∙ e)

  pub pager_keeps_flat : (h : Home) (w : World) (r : PagerRec) → slice_get s.pager p ≡ Some r → home s g ≡ h → h ≢ AtSource → ((a got : ℕ) (content : List ℕ) → r ≡ Place a got content → content ≡ page_of s.geometry.cells (flat s (at_halt s)) a) → ((a : ℕ) → r ≡ Zero a → in_ledger s (at_halt s) a ≡ true) → ((a : ℕ) → is_placement_of a r ≡ true → touched s g a ≡ false) → IsFlatAtTarget s g p w → IsFlatAtTarget s g (suc p) (pager_step r w)
  pager_keeps_flat h w (Place a got content) is at left flat_content released free i =
      placement_keeps_flat h w (Place a got content) a (λ d. slice_index content d) is (λ q. refl) at left (free a (itself a)) (λ d lt. ap (λ xs. slice_index xs d) (flat_content a got content refl) ∙ content_at (flat s (at_halt s)) s.geometry.cells a d lt) i
  pager_keeps_flat h w (Zero a) is at left flat_content released free i =
      placement_keeps_flat h w (Zero a) a (λ d. 0) is (λ q. refl) at left (free a (itself a)) (λ d lt. sym (released_zero s (at_halt s) a d (released a refl))) i
  pager_keeps_flat h w (Got k) is at left flat_content released free i = idle_keeps_flat w (Got k) is (λ q. refl) i
  pager_keeps_flat h w (Pull k) is at left flat_content released free i = idle_keeps_flat w (Pull k) is (λ q. refl) i
  pager_keeps_flat h w Ready is at left flat_content released free i = idle_keeps_flat w Ready is (λ q. refl) i
  pager_keeps_flat h w (Fault k) is at left flat_content released free i = idle_keeps_flat w (Fault k) is (λ q. refl) i
  pager_keeps_flat h w (Join k) is at left flat_content released free i = idle_keeps_flat w (Join k) is (λ q. refl) i
  pager_keeps_flat h w (Want k) is at left flat_content released free i = idle_keeps_flat w (Want k) is (λ q. refl) i
  pager_keeps_flat h w (Skip k) is at left flat_content released free i = idle_keeps_flat w (Skip k) is (λ q. refl) i
  pager_keeps_flat h w All is at left flat_content released free i = idle_keeps_flat w All is (λ q. refl) i
