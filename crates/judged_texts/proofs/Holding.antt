-- Frames that hold the memory after a merging, so that a safe merging has a replay.
use Rattle.std.proofs.Common.{◌≡◌, ℕ, ◌+◌, ◌*◌, ◌<◌, ◌≤◌, ◌/◌, ◌%◌, Bool, true, false, cond, List, [], ◌∷◌, length, map, get_or, Option, Some, None, refl, sym, ap, ◌∙◌, arith, div-add-mod', mod-lt}
use Rattle.std.specs.Prelude.{◌==◌, slice_get}
use Rattle.std.specs.List.{range_with_len, AllByRecursion}
use Rattle.std.proofs.lemmas.Bool.{ne_eqb, and_left, and_right}
use Rattle.std.proofs.lemmas.List.{get_or_past}
use Rattle.std.proofs.lemmas.List.FromFn.{get_or-map-range_with_len}
use Rattle.std.proofs.lemmas.Nat.{same_from_place}
use Rattle.migration_types.specs.declared.cert.Run.{Run}
use Rattle.migration_types.specs.declared.pages.InitPage.{InitPage}
use Rattle.migration_types.specs.declared.records.LogName.TheVariants.{Guest, Source, Link, Lane, Pager}
use Rattle.migration_types.specs.declared.records.GuestRec.{GuestRec}
use Rattle.migration_types.specs.declared.records.GuestRec.TheVariants.{Read, Write, Release, Miss, Halt, Resume, See}
use Rattle.migration_types.specs.declared.records.PagerRec.{PagerRec}
use Rattle.migration_types.specs.declared.records.PagerRec.TheVariants.{Got, Pull, Ready, Fault, Join, Want, Place, Zero, Skip, All}
use Rattle.migration_types.specs.Extents.{Extent}
use Rattle.migration_types.specs.Memory.{Memory, zeros, with_cell, with_content, with_zeros, initial}
use Rattle.migration_types.specs.Pages.{InitPageFits}
use Rattle.migration_types.specs.Receipts.{Name}
use Rattle.migration_types.specs.Sessions.{Recorded, IsSession, GuestRecFits, PagerRecFits}
use Rattle.audit_model.specs.declared.home.Home.{Home}
use Rattle.audit_model.specs.declared.home.Home.TheVariants.{AtSource, Nowhere, AtTarget}
use Rattle.audit_model.specs.Flat.{changed}
use Rattle.audit_model.specs.Mergings.{IsMerging, spelled}
use Rattle.audit_model.specs.World.{World, start, guest_step, guest_step_at, pager_step, step, run_from, world_after, IsSafeOrder}
use Rattle.audit_model.proofs.Lists.{each_at}
use Rattle.page_store.specs.Frames.{Frames, memory_of}
use Rattle.page_store.proofs.Places.{memory_by, place_lt}
use Rattle.merge_runs.specs.Replays.{final_memory, final_memory_at}
use Rattle.judged_texts.specs.Replayed.{Replays}

-- ---- memories with zeros beyond the machine

record IsWithin (e : Extent) (m : Memory) : Type 0 where
  pub page : (q d : ℕ) → e.pages ≤ q → m q d ≡ 0
  pub cell : (q d : ℕ) → e.cells ≤ d → m q d ≡ 0

zeros_within : (e : Extent) → IsWithin e zeros
zeros_within e = record { page = λ q d le. refl; cell = λ q d le. refl }

apart : (p q n : ℕ) → p < n → n ≤ q → (p == q) ≡ false
apart p q n lt le = ne_eqb p q (λ h. absurd (omega (arith, h, lt, le)))

cell_within : (e : Extent) (p c x : ℕ) (m : Memory) → p < e.pages → c < e.cells → IsWithin e m → IsWithin e (with_cell p c x m)
cell_within e p c x m lp lc was = record {
  page = λ q d le. ap (λ b. cond b x (m q d)) (and_left (p == q) (c == d) (apart p q e.pages lp le)) ∙ was.page q d le;
  cell = λ q d le. ap (λ b. cond b x (m q d)) (and_right (p == q) (c == d) (apart c d e.cells lc le)) ∙ was.cell q d le;
}

none : (b : Bool) (k : ℕ) → k ≡ 0 → cond b 0 k ≡ 0
none true k e = refl
none false k e = e

freed_within : (e : Extent) (p : ℕ) (m : Memory) → IsWithin e m → IsWithin e (with_zeros p m)
freed_within e p m was = record {
  page = λ q d le. none (p == q) (m q d) (was.page q d le);
  cell = λ q d le. none (p == q) (m q d) (was.cell q d le);
}

either : (b : Bool) (j k : ℕ) → j ≡ 0 → k ≡ 0 → cond b j k ≡ 0
either true j k f e = f
either false j k f e = e

content_within : (e : Extent) (p : ℕ) (xs : List ℕ) (m : Memory) → p < e.pages → length xs ≡ e.cells → IsWithin e m → IsWithin e (with_content p xs m)
content_within e p xs m lp long was = record {
  page = λ q d le. ap (λ b. cond b (get_or xs d 0) (m q d)) (apart p q e.pages lp le) ∙ was.page q d le;
  cell = λ q d le. either (p == q) (get_or xs d 0) (m q d) (get_or_past xs d 0 (omega (arith, long, le))) (was.cell q d le);
}

initial_within : (e : Extent) (init : List InitPage) → AllByRecursion (InitPageFits e) init → IsWithin e (initial init)
initial_within e [] all = zeros_within e
initial_within e (given ∷ rest) all = content_within e given.page given.cells (initial rest) all.0.page all.0.content.count (initial_within e rest all.1)

-- ---- both memories of a world

record AreWithin (e : Extent) (w : World) : Type 0 where
  pub source : IsWithin e w.source
  pub target : IsWithin e w.target

if_within : (e : Extent) (b : Bool) (m n : Memory) → IsWithin e m → IsWithin e n → IsWithin e (cond b m n)
if_within e true m n f g = f
if_within e false m n f g = g

guest_within : (e : Extent) (h : Home) (r : GuestRec) (w : World) → GuestRecFits e r → AreWithin e w → AreWithin e (guest_step_at h r w)
guest_within e AtSource (Read v p c x) w fits was = was
guest_within e Nowhere (Read v p c x) w fits was = was
guest_within e AtTarget (Read v p c x) w fits was = record { source = was.source; target = was.target }
guest_within e AtSource (Write v p c x) w fits was = record { source = cell_within e p c x w.source fits.1 fits.2 was.source; target = was.target }
guest_within e Nowhere (Write v p c x) w fits was = was
guest_within e AtTarget (Write v p c x) w fits was = record { source = was.source; target = if_within e (w.resident p) (with_cell p c x w.target) w.target (cell_within e p c x w.target fits.1 fits.2 was.target) was.target }
guest_within e AtSource (Release v p) w fits was = record { source = freed_within e p w.source was.source; target = was.target }
guest_within e Nowhere (Release v p) w fits was = was
guest_within e AtTarget (Release v p) w fits was = record { source = was.source; target = freed_within e p w.target was.target }
guest_within e h (Miss v p) w fits was = was
guest_within e h Halt w fits was = record { source = was.source; target = was.target }
guest_within e h (Resume i) w fits was = record { source = was.source; target = was.target }
guest_within e h (See k) w fits was = was

module _ (s : Recorded) (is : IsSession s) where
  pager_within : (r : PagerRec) (w : World) → PagerRecFits s.version s.geometry r → AreWithin s.geometry w → AreWithin s.geometry (pager_step r w)
  pager_within (Got d) w fits was = was
  pager_within (Pull d) w fits was = was
  pager_within Ready w fits was = was
  pager_within (Fault m) w fits was = was
  pager_within (Join m) w fits was = was
  pager_within (Want p) w fits was = was
  pager_within (Place p got xs) w fits was = record { source = was.source; target = content_within s.geometry p xs w.target fits.0 fits.2.count was.target }
  pager_within (Zero p) w fits was = record { source = was.source; target = freed_within s.geometry p w.target was.target }
  pager_within (Skip got) w fits was = was
  pager_within All w fits was = was

  step_within : (name : Name) (w : World) → AreWithin s.geometry w → AreWithin s.geometry (step s name w)
  step_within (Guest, n) w was = go (slice_get s.guest n) refl
    where
      go : (o : Option GuestRec) → slice_get s.guest n ≡ o → AreWithin s.geometry (changed guest_step o w)
      go None e = was
      go (Some r) e = guest_within s.geometry w.home r w (each_at (GuestRecFits s.geometry) s.guest n r is.guest e) was
  step_within (Source, n) w was = was
  step_within (Link, n) w was = was
  step_within (Lane, n) w was = was
  step_within (Pager, n) w was = go (slice_get s.pager n) refl
    where
      go : (o : Option PagerRec) → slice_get s.pager n ≡ o → AreWithin s.geometry (changed pager_step o w)
      go None e = was
      go (Some r) e = pager_within r w (each_at (PagerRecFits s.version s.geometry) s.pager n r is.pager e) was

  run_within : (names : List Name) (w : World) → AreWithin s.geometry w → AreWithin s.geometry (run_from s w names)
  run_within [] w was = was
  run_within (name ∷ names) w was = run_within names (step s name w) (step_within name w was)

  start_within : AreWithin s.geometry (start s)
  start_within = record { source = initial_within s.geometry s.init is.init.each; target = zeros_within s.geometry }

  final_within : (h : Home) (w : World) → AreWithin s.geometry w → IsWithin s.geometry (final_memory_at h w)
  final_within AtSource w was = was.source
  final_within Nowhere w was = was.source
  final_within AtTarget w was = was.target

  after_within : (names : List Name) → IsWithin s.geometry (final_memory (world_after s names))
  after_within names = final_within (world_after s names).home (world_after s names) (run_within names (start s) start_within)

-- ---- frames that hold a memory

abbrev frames_with : Extent → Memory → Frames
frames_with e m = record { geometry = e; items = map (λ k. m (k / e.cells) (k % e.cells)) (range_with_len 0 (e.pages * e.cells)) }

frames_hold : (e : Extent) (m : Memory) → IsWithin e m → memory_of (frames_with e m) ≡ m
frames_hold e m was = memory_by e.size e.pages e.cells _ m within (λ q d le. sym (was.page q d le)) (λ q d lq le. sym (was.cell q d le))
  where
    within : (q d : ℕ) → q < e.pages → d < e.cells → get_or (map (λ k. m (k / e.cells) (k % e.cells)) (range_with_len 0 (e.pages * e.cells))) (q * e.cells + d) 0 ≡ m q d
    within q d lq ld =
        let k = q * e.cells + d in
        let row : k / e.cells * e.cells + k % e.cells ≡ q * e.cells + d = div-add-mod' k e.cells in
        let some : 0 < e.cells = omega (arith, ld) in
        let parts = same_from_place (k / e.cells) (k % e.cells) q d e.cells (mod-lt k some) ld row in
        get_or-map-range_with_len (λ k. m (k / e.cells) (k % e.cells)) 0 (e.pages * e.cells) k k 0 (place_lt e.pages e.cells q d lq ld) (omega arith)
        ∙ ap (λ a. m a (k % e.cells)) parts.0
        ∙ ap (λ b. m q b) parts.1

-- ---- the replay of a safe merging

-- it finds no record whose demand fails
pub replays_safely : (s : Recorded) (runs : List Run) → IsSession s → IsMerging s (spelled runs) → IsSafeOrder s (spelled runs) → Replays s runs None
replays_safely s runs is merging safe =
    let memory = final_memory (world_after s (spelled runs)) in (
      record { first_broken = None; memory = frames_with s.geometry memory },
      record { is_merging = merging; first_broken = safe; memory = frames_hold s.geometry memory (after_within s is (spelled runs)); geometry = refl },
      refl,
    )
