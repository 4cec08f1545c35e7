-- The machine that never moved, one record of the guest later.
use Rattle.std.proofs.Common.{◌≡◌, ◌≢◌, ℕ, ◌+◌, ◌*◌, ◌<◌, ◌≤◌, ◌⊎◌, inl, inr, cond, List, get_or, Option, Some, None, eq-eqb, sym, ap, ◌∙◌, arith}
use Rattle.std.specs.Prelude.{slice_index}
use Rattle.std.proofs.lemmas.Bool.{cases_lt, cases_eq, and_left, and_right, le-ltb, ne_eqb}
use Rattle.std.proofs.lemmas.List.{get_or_past}
use Rattle.std.proofs.lemmas.List.FromFn.{length-map-range_with_len}
use Rattle.migration_types.specs.declared.records.GuestRec.{GuestRec}
use Rattle.migration_types.specs.declared.records.GuestRec.TheVariants.{Read, Write, Release, Miss, Halt, Resume, See}
use Rattle.migration_types.specs.Extents.{Extent}
use Rattle.migration_types.specs.Memory.{Memory, page_of, with_content}
use Rattle.audit_model.specs.declared.home.Home.{Home}
use Rattle.audit_model.specs.declared.home.Home.TheVariants.{AtSource}
use Rattle.audit_model.specs.World.{World, guest_step, guest_step_at}
use Rattle.audit_model.proofs.Worlds.{content_at}
use Rattle.flat_machine.specs.Machines.{memory_after}
use Rattle.page_store.specs.Frames.{Frames, memory_of, IsWith}
use Rattle.merge_runs.specs.inner.Unmoved.{frames_of, IsApart, IsSameMachine, IsUnmovedAfter}

-- ---- the copy

past : (f : Frames) (p c : ℕ) → (f.geometry.pages ≤ p) ⊎ (f.geometry.cells ≤ c) → memory_of f p c ≡ 0
past f p c (inl le) = ap (λ b. cond b (get_or f.items (p * f.geometry.cells + c) 0) 0) (and_left _ _ (le-ltb p f.geometry.pages le))
past f p c (inr le) = ap (λ b. cond b (get_or f.items (p * f.geometry.cells + c) 0) 0) (and_right _ _ (le-ltb c f.geometry.cells le))

-- what a page has at a place, be it a cell or past the last
cell_at : (f : Frames) (p c : ℕ) → (c < f.geometry.cells) ⊎ (f.geometry.cells ≤ c) → slice_index (page_of f.geometry.cells (memory_of f) p) c ≡ memory_of f p c
cell_at f p c (inl lt) = content_at (memory_of f) f.geometry.cells p c lt
cell_at f p c (inr le) = get_or_past (page_of f.geometry.cells (memory_of f) p) c 0 (let long = length-map-range_with_len (memory_of f p) 0 f.geometry.cells in omega (arith, long, le)) ∙ sym (past f p c (inr le))

-- one page more is copied
pub copied_more : (from old new : Frames) (page : ℕ) (content : List ℕ) → content ≡ page_of from.geometry.cells (memory_of from) page → IsWith old new (with_content page content (memory_of old)) → ((p c : ℕ) → p < page → memory_of old p c ≡ memory_of from p c) → (p c : ℕ) → p < page + 1 → memory_of new p c ≡ memory_of from p c
copied_more from old new page content e on done p c lt = ap (λ (m : Memory). m p c) on.memory_is ∙ go (cases_eq page p)
  where
    go : (page ≡ p) ⊎ (page ≢ p) → with_content page content (memory_of old) p c ≡ memory_of from p c
    go (inl same) =
        ap (λ b. cond b (slice_index content c) (memory_of old p c)) (eq-eqb page p same)
        ∙ ap (λ (xs : List ℕ). slice_index xs c) e
        ∙ cell_at from page c (cases_lt c from.geometry.cells)
        ∙ ap (λ q. memory_of from q c) same
    go (inr other) = ap (λ b. cond b (slice_index content c) (memory_of old p c)) (ne_eqb page p other) ∙ done p c (omega (arith, lt, other))

-- all pages are
pub copied_all : (from copy : Frames) (count : ℕ) → copy.geometry ≡ from.geometry → from.geometry.pages ≤ count → ((p c : ℕ) → p < count → memory_of copy p c ≡ memory_of from p c) → IsSameMachine from copy
copied_all from copy count same le done = record { geometry = same; memory = λ i p c. each p c (cases_lt p count) i }
  where
    each : (p c : ℕ) → (p < count) ⊎ (count ≤ p) → memory_of copy p c ≡ memory_of from p c
    each p c (inl lt) = done p c lt
    each p c (inr past_all) =
        let pages = ap (λ (e : Extent). e.pages) same in
        past copy p c (inl (omega (arith, le, past_all, pages))) ∙ sym (past from p c (inl (omega (arith, le, past_all))))

-- ---- one record more

-- as long as the guest is at the source, what it does there is what it does on a machine that never moves
stays : (r : GuestRec) (w : World) (f g : Frames) (home : Home) (new : Option Frames) → w.home ≡ AtSource → w.source ≡ memory_of f → memory_of g ≡ (guest_step r w).source → home ≡ (guest_step r w).home → IsUnmovedAfter r f None new → (memory_of (frames_of new g) ≡ memory_after r (memory_of f)) × IsApart new home
stays r w f g home new at source mem now on = go r new mem' now' on
  where
    mem' : memory_of g ≡ (guest_step_at AtSource r w).source
    mem' = mem ∙ ap (λ h. (guest_step_at h r w).source) at

    now' : home ≡ (guest_step_at AtSource r w).home
    now' = now ∙ ap (λ h. (guest_step_at h r w).home) at

    go : (r : GuestRec) (new : Option Frames) → memory_of g ≡ (guest_step_at AtSource r w).source → home ≡ (guest_step_at AtSource r w).home → IsUnmovedAfter r f None new → (memory_of (frames_of new g) ≡ memory_after r (memory_of f)) × IsApart new home
    go (Read v p c x) None m h on = (m ∙ source, h ∙ at)
    go (Read v p c x) (Some o) m h on = absurd (cc)
    go (Write v p c x) None m h on = (m ∙ ap (λ (y : Memory). memory_after (Write v p c x) y) source, h ∙ at)
    go (Write v p c x) (Some o) m h on = absurd (cc)
    go (Release v p) None m h on = (m ∙ ap (λ (y : Memory). memory_after (Release v p) y) source, h ∙ at)
    go (Release v p) (Some o) m h on = absurd (cc)
    go (Miss v p) None m h on = (m ∙ source, h ∙ at)
    go (Miss v p) (Some o) m h on = absurd (cc)
    go (See k) None m h on = (m ∙ source, h ∙ at)
    go (See k) (Some o) m h on = absurd (cc)
    go Halt None m h on = absurd on
    go Halt (Some o) m h on = (on.memory, tt)
    go (Resume i) None m h on = absurd on
    go (Resume i) (Some o) m h on = (on.memory, tt)

-- the machine that never moved, and where it has frames of its own
pub unmoved_more : (r : GuestRec) (w : World) (f g : Frames) (home : Home) (old new : Option Frames) → IsApart old w.home → w.source ≡ memory_of f → memory_of g ≡ (guest_step r w).source → home ≡ (guest_step r w).home → IsUnmovedAfter r f old new → (memory_of (frames_of new g) ≡ memory_after r (memory_of (frames_of old f))) × IsApart new home
unmoved_more r w f g home None new at source mem now on = stays r w f g home new at source mem now on
unmoved_more r w f g home (Some o) None at source mem now on = absurd on
unmoved_more r w f g home (Some o) (Some n) at source mem now on = (on.memory_is, tt)
