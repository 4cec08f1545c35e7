-- The world at one cell of one page follows the world.
use Rattle.std.proofs.Common.{◌≡◌, ℕ, ◌+◌, ◌<◌, Bool, true, false, ◌&&◌, cond, List, [], ◌∷◌, ◌++◌, length, take, get_or, Option, Some, None, refl, sym, ap, ◌∙◌, eqb-true}
use Rattle.std.specs.Prelude.{slice_get, ◌==◌}
use Rattle.std.proofs.lemmas.List.{take_more}
use Rattle.migration_types.specs.declared.records.LogName.TheVariants.{Guest, Source, Link, Lane, Pager}
use Rattle.migration_types.specs.declared.records.GuestRec.{GuestRec}
use Rattle.migration_types.specs.declared.records.GuestRec.TheVariants.{Read, Write, Release, Miss, Halt, Resume, See}
use Rattle.migration_types.specs.declared.records.PagerRec.{PagerRec}
use Rattle.migration_types.specs.declared.records.PagerRec.TheVariants.{Place, Zero}
use Rattle.migration_types.specs.Memory.{with_cell}
use Rattle.migration_types.specs.Receipts.{Name}
use Rattle.migration_types.specs.Sessions.{Recorded}
use Rattle.audit_model.specs.declared.home.Home.{Home}
use Rattle.audit_model.specs.declared.home.Home.TheVariants.{AtSource, Nowhere, AtTarget}
use Rattle.audit_model.specs.Flat.{changed}
use Rattle.audit_model.specs.World.{World, guest_step, write_at, release_at, read_at, pager_step, step, run_from, world_after}
use Rattle.plain_audit.specs.Spots.{spot_at, spot_written, spot_released, spot_read, guest_spot, pager_spot, spot_step}

picked : (t q r r' : Bool) (x y : ℕ) → (t ≡ true → r ≡ r') → cond r (cond (t && q) x y) y ≡ cond ((t && q) && r') x y
picked true true true true x y same = refl
picked true true true false x y same = absurd (let e = same refl in cc)
picked true true false true x y same = absurd (let e = same refl in cc)
picked true true false false x y same = refl
picked true false true r' x y same = refl
picked true false false r' x y same = refl
picked false q true r' x y same = refl
picked false q false r' x y same = refl

module _ (w : World) (page cell : ℕ) where
  of_page : (p : ℕ) → (p == page) ≡ true → w.resident p ≡ w.resident page
  of_page p e = ap w.resident (eqb-true p page e)

  at_cell : (r : Bool) (m n : ℕ → ℕ → ℕ) → cond r m n page cell ≡ cond r (m page cell) (n page cell)
  at_cell true m n = refl
  at_cell false m n = refl

  after_write : (h : Home) (p c value : ℕ) → spot_at (write_at h p c value w) page cell ≡ spot_written h (p == page) (c == cell) value (spot_at w page cell)
  after_write AtSource p c value = refl
  after_write Nowhere p c value = refl
  after_write AtTarget p c value =
      let e = at_cell (w.resident p) (with_cell p c value w.target) w.target ∙ picked (p == page) (c == cell) (w.resident p) (w.resident page) value (w.target page cell) (of_page p) in
      ap (λ t. record (spot_at w page cell) { target = t; touched = cond (p == page) true (w.touched page) }) e

  after_release : (h : Home) (p : ℕ) → spot_at (release_at h p w) page cell ≡ spot_released h (p == page) (spot_at w page cell)
  after_release AtSource p = refl
  after_release Nowhere p = refl
  after_release AtTarget p = refl

  after_read : (h : Home) (p : ℕ) → spot_at (read_at h p w) page cell ≡ spot_read h (p == page) (spot_at w page cell)
  after_read AtSource p = refl
  after_read Nowhere p = refl
  after_read AtTarget p = refl

  after_guest : (r : GuestRec) → spot_at (guest_step r w) page cell ≡ guest_spot page cell r (spot_at w page cell)
  after_guest (Read v p c x) = after_read w.home p
  after_guest (Write v p c x) = after_write w.home p c x
  after_guest (Release v p) = after_release w.home p
  after_guest (Miss v p) = refl
  after_guest Halt = refl
  after_guest (Resume k) = refl
  after_guest (See k) = refl

  after_pager : (r : PagerRec) → spot_at (pager_step r w) page cell ≡ pager_spot page cell r (spot_at w page cell)
  after_pager (Place p got content) = refl
  after_pager (Zero p) = refl
  after_pager r = refl

  pub after_step : (s : Recorded) (name : Name) → spot_at (step s name w) page cell ≡ spot_step s page cell name (spot_at w page cell)
  after_step s (Guest, n) = go (slice_get s.guest n)
    where
      go : (o : Option GuestRec) → spot_at (changed guest_step o w) page cell ≡ changed (guest_spot page cell) o (spot_at w page cell)
      go None = refl
      go (Some r) = after_guest r
  after_step s (Source, n) = refl
  after_step s (Link, n) = refl
  after_step s (Lane, n) = refl
  after_step s (Pager, n) = go (slice_get s.pager n)
    where
      go : (o : Option PagerRec) → spot_at (changed pager_step o w) page cell ≡ changed (pager_spot page cell) o (spot_at w page cell)
      go None = refl
      go (Some r) = after_pager r

run_push : (s : Recorded) (w : World) (past : List Name) (name : Name) → run_from s w (past ++ name ∷ []) ≡ step s name (run_from s w past)
run_push s w [] name = refl
run_push s w (n ∷ past) name = run_push s (step s n w) past name

pub world_more : (s : Recorded) (order : List Name) (at : ℕ) (d : Name) → at < length order → world_after s (take (at + 1) order) ≡ step s (get_or order at d) (world_after s (take at order))
world_more s order at d lt = ap (λ names. world_after s names) (take_more order at d lt) ∙ run_push s _ (take at order) (get_or order at d)

pub spot_more : (s : Recorded) (order : List Name) (at page cell : ℕ) (d : Name) → at < length order → spot_step s page cell (get_or order at d) (spot_at (world_after s (take at order)) page cell) ≡ spot_at (world_after s (take (at + 1) order)) page cell
spot_more s order at page cell d lt =
    sym (after_step (world_after s (take at order)) page cell s (get_or order at d)) ∙ ap (λ (w : World). spot_at w page cell) (sym (world_more s order at d lt))
