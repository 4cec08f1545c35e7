-- Pages with an entry that says where they were placed or released are resident at the end.
use Rattle.std.proofs.Common.{◌≡◌, ◌≢◌, ℕ, zero, suc, ◌<◌, ◌≤◌, ◌⊎◌, inl, inr, Bool, true, false, cond, ◌||◌, List, [], length, Option, Some, None, get_or, refl, sym, ap, ◌∙◌, subst, arith}
use Rattle.std.specs.Prelude.{slice_get, ◌==◌}
use Rattle.std.proofs.lemmas.List.{append-nil}
use Rattle.std.proofs.lemmas.Option.{slice_get_within, slice_get-get_or}
use Rattle.std.proofs.lemmas.Bool.{cases_lt}
use Rattle.std.proofs.lemmas.Bool.Decides.{nat_tests}
use Rattle.migration_types.specs.declared.records.LogName.TheVariants.{Guest, Pager}
use Rattle.migration_types.specs.declared.records.GuestRec.{GuestRec}
use Rattle.migration_types.specs.declared.records.GuestRec.TheVariants.{Read, Write, Release, Miss, Halt, Resume, See}
use Rattle.migration_types.specs.declared.records.PagerRec.{PagerRec}
use Rattle.migration_types.specs.declared.cert.Entry.{Entry}
use Rattle.migration_types.specs.declared.cert.Entry.TheVariants.{Nothing, Fresh, Source, Balloon}
use Rattle.migration_types.specs.Certs.{Certified}
use Rattle.migration_types.specs.Receipts.{Name}
use Rattle.migration_types.specs.Sessions.{Recorded}
use Rattle.audit_model.specs.Mergings.{IsMerging, at_start, spelled}
use Rattle.audit_model.specs.Walks.{cursors_from}
use Rattle.audit_model.specs.Flat.{changed, flat, freed, freed_after, home, in_ledger, at_halt, marked_late}
use Rattle.audit_model.specs.declared.home.Home.{Home}
use Rattle.audit_model.specs.declared.home.Home.TheVariants.{AtSource, Nowhere, AtTarget}
use Rattle.audit_model.specs.Shape.{is_placement_of, earlier}
use Rattle.audit_model.specs.World.{world_after}
use Rattle.audit_model.specs.Worlds.{placed_before, resident_before, FollowsCursors}
use Rattle.audit_model.specs.Certificates.{is_touch_of, IsLateTouch, IsOf, IsNothing, IsFresh, IsRightCertificate}
use Rattle.audit_model.proofs.History.{earlier_true}
use Rattle.audit_model.proofs.Walked.{merging_is_walk}
use Rattle.migration_types.specs.Extents.{Extent}
use Rattle.migration_types.specs.Memory.{Memory, page_of}
use Rattle.page_store.specs.Frames.{Frames, memory_of}
use Rattle.migration_model.specs.Promise.{HasEachOwed}
use Rattle.host_checks.specs.Outcomes.{IsFlatStore}

same_page : (p : ℕ) → (p == p) ≡ true
same_page p = grind (arith, nat_tests)

-- a page that was released at the target before a record is so before all later ones
freed_on : (h : Home) (page : ℕ) (r : GuestRec) → freed_after h page r true ≡ true
freed_on AtSource page (Release v p) = refl
freed_on Nowhere page (Release v p) = refl
freed_on AtTarget page (Release v p) = either (p == page)
  where
    either : (b : Bool) → cond b true true ≡ true
    either true = refl
    either false = refl
freed_on h page (Read v p c x) = refl
freed_on h page (Write v p c x) = refl
freed_on h page (Miss v p) = refl
freed_on h page Halt = refl
freed_on h page (Resume k) = refl
freed_on h page (See k) = refl

freed_later : (s : Recorded) (page n m : ℕ) → n ≤ m → freed s n page ≡ true → freed s m page ≡ true
freed_later s page n zero le is = let same : n ≡ zero = omega (arith, le) in subst (λ k. freed s k page ≡ true) same is
freed_later s page n (suc m) le is = go (λ l. freed_later s page n m l is) (cases_lt n (suc m))
  where
    on : (o : Option GuestRec) → freed s m page ≡ true → changed (freed_after (home s m) page) o (freed s m page) ≡ true
    on None so = so
    on (Some r) so = ap (λ b. freed_after (home s m) page r b) so ∙ freed_on (home s m) page r

    go : (n ≤ m → freed s m page ≡ true) → (n < suc m) ⊎ (suc m ≤ n) → freed s (suc m) page ≡ true
    go rec (inl l) = on (slice_get s.guest m) (rec (omega (arith, l)))
    go rec (inr l) = let same : n ≡ suc m = omega (arith, le, l) in subst (λ k. freed s k page ≡ true) same is

freed_by : (s : Recorded) (page n vcpu : ℕ) → slice_get s.guest n ≡ Some (Release vcpu page) → home s n ≡ AtTarget → freed s (suc n) page ≡ true
freed_by s page n vcpu is late =
    ap (λ o. changed (freed_after (home s n) page) o (freed s n page)) is
    ∙ ap (λ h. marked_late h (page == page) (freed s n page)) late
    ∙ ap (λ b. cond b true (freed s n page)) (same_page page)

-- where a page is placed or was released at the target, it is resident
abbrev Comes : Recorded → ℕ → Type 0
Comes s page = resident_before s (length s.guest) (length s.pager) page ≡ true

or_right : (b : Bool) → (b || true) ≡ true
or_right true = refl
or_right false = refl

placed_comes : (s : Recorded) (page place : ℕ) (r : PagerRec) → slice_get s.pager place ≡ Some r → is_placement_of page r ≡ true → Comes s page
placed_comes s page place r is places =
    ap (λ b. b || freed s (length s.guest) page) (earlier_true (is_placement_of page) s.pager place (length s.pager) r is places (slice_get_within s.pager place r is))

fresh_comes : (s : Recorded) (page first : ℕ) → IsFresh s page first → Comes s page
fresh_comes s page first of =
    let lt = slice_get_within s.guest first _ of.is_release in
    let at_end = freed_later s page (suc first) (length s.guest) (omega (arith, lt)) (freed_by s page first of.vcpu of.is_release of.is_late) in
    ap (λ b. placed_before s (length s.pager) page || b) at_end ∙ or_right (placed_before s (length s.pager) page)

entry_comes : (s : Recorded) (page : ℕ) (entry : Entry) → entry ≢ Nothing → IsOf s page entry → Comes s page
entry_comes s page Nothing other of = absurd (other refl)
entry_comes s page (Fresh first) other of = fresh_comes s page first of
entry_comes s page (Source send place first) other of = placed_comes s page place _ of.is_placed (same_page page)
entry_comes s page (Balloon place first) other of = placed_comes s page place _ of.is_zeroed (same_page page)

-- what is resident at the end of a merging
at_end : (s : Recorded) → FollowsCursors s → (order : List Name) → IsMerging s order → (page : ℕ) → (world_after s order).resident page ≡ resident_before s (length s.guest) (length s.pager) page
at_end s follows order merging page =
    let at = follows order merging order [] (sym (append-nil order)) in
    let all = (merging_is_walk s order merging).1 in
    at.world.resident_is page
    ∙ ap (λ (n : ℕ). resident_before s n (cursors_from at_start order Pager) page) (all Guest)
    ∙ ap (λ (n : ℕ). resident_before s (length s.guest) n page) (all Pager)

resident_at_end : (s : Recorded) → FollowsCursors s → (order : List Name) → IsMerging s order → (page : ℕ) → Comes s page → (world_after s order).resident page ≡ true
resident_at_end s follows order merging page comes = at_end s follows order merging page ∙ comes

-- where each owed page has another entry than that it was not placed
pub each_owed : (s : Recorded) (c : Certified) → FollowsCursors s → IsRightCertificate s c →
    ((page : ℕ) (entry : Entry) → slice_get c.entries page ≡ Some entry → in_ledger s (at_halt s) page ≡ false → entry ≢ Nothing) →
    HasEachOwed s (spelled c.runs)
each_owed s c follows right owed page within out =
    let entry = get_or c.entries page Nothing in
    let is : slice_get c.entries page ≡ Some entry = slice_get-get_or c.entries page Nothing (subst (λ (n : ℕ). page < n) (sym right.pages) within) in
    resident_at_end s follows (spelled c.runs) right.merging page (entry_comes s page entry (owed page entry is out) (right.entries page entry is).1)

-- ---- a page that is neither placed nor released at the target

none_earlier : {A : Type 0} (test : A → Bool) (log : List A) (n : ℕ) → ((m : ℕ) (r : A) → slice_get log m ≡ Some r → test r ≡ false) → earlier test log n ≡ false
none_earlier test log zero none = refl
none_earlier {A} test log (suc n) none = go (slice_get log n) refl (none_earlier test log n none)
  where
    go : (o : Option A) → slice_get log n ≡ o → earlier test log n ≡ false → changed (λ x found. test x || found) o (earlier test log n) ≡ false
    go None is before = before
    go (Some r) is before = ap (λ b. b || earlier test log n) (none n r is) ∙ before

-- a record that is no touch of the page after handover frees it not
frees_none : (h : Home) (page : ℕ) (r : GuestRec) → (is_touch_of page r ≡ true → h ≡ AtTarget → ⊥) → freed_after h page r false ≡ false
frees_none AtSource page (Release v p) none = refl
frees_none Nowhere page (Release v p) none = refl
frees_none AtTarget page (Release v p) none = go (p == page) refl
  where
    go : (b : Bool) → (p == page) ≡ b → cond b true false ≡ false
    go true e = absurd (none e refl)
    go false e = refl
frees_none h page (Read v p c x) none = refl
frees_none h page (Write v p c x) none = refl
frees_none h page (Miss v p) none = refl
frees_none h page Halt none = refl
frees_none h page (Resume k) none = refl
frees_none h page (See k) none = refl

none_freed : (s : Recorded) (page n : ℕ) → ((m : ℕ) → IsLateTouch s page m → ⊥) → freed s n page ≡ false
none_freed s page zero none = refl
none_freed s page (suc n) none = go (slice_get s.guest n) refl (none_freed s page n none)
  where
    go : (o : Option GuestRec) → slice_get s.guest n ≡ o → freed s n page ≡ false → changed (freed_after (home s n) page) o (freed s n page) ≡ false
    go None is before = before
    go (Some r) is before =
        ap (λ b. freed_after (home s n) page r b) before
        ∙ frees_none (home s n) page r (λ touch late. none n (record { by = r; stands = is; is_touch = touch; is_late = late }))

nothing_comes : (s : Recorded) (page : ℕ) → IsNothing s page → resident_before s (length s.guest) (length s.pager) page ≡ false
nothing_comes s page of =
    ap (λ b. b || freed s (length s.guest) page) (none_earlier (is_placement_of page) s.pager (length s.pager) of.unplaced)
    ∙ none_freed s page (length s.guest) of.untouched

-- where an owed page has the entry that it was not placed
pub some_owed : (s : Recorded) (c : Certified) → FollowsCursors s → IsRightCertificate s c →
    (page : ℕ) → slice_get c.entries page ≡ Some Nothing → in_ledger s (at_halt s) page ≡ false → HasEachOwed s (spelled c.runs) → ⊥
some_owed s c follows right page is out owed =
    let within : page < s.geometry.pages = omega (arith, slice_get_within c.entries page Nothing is, right.pages) in
    let gone = nothing_comes s page (right.entries page Nothing is).1 in
    let wrong : true ≡ false = sym (owed page within out) ∙ at_end s follows (spelled c.runs) right.merging page ∙ gone in
    absurd (cc)

-- frames with the same in each page as those of the machine behind the guest's log
pub flat_store : (s : Recorded) (store frames : Frames) (n : ℕ) → store.geometry ≡ s.geometry → frames.geometry ≡ s.geometry → memory_of frames ≡ flat s n → n ≡ length s.guest →
    ((page : ℕ) → page < frames.geometry.pages → page_of frames.geometry.cells (memory_of store) page ≡ page_of frames.geometry.cells (memory_of frames) page) → IsFlatStore s store
flat_store s store frames n sized flat_sized memory all same = record {
  geometry = sized;
  pages = λ page within.
      let under : page < frames.geometry.pages = subst (λ (e : Extent). page < e.pages) (sym flat_sized) within in
      subst (λ (e : Extent). page_of e.cells (memory_of store) page ≡ page_of e.cells (memory_of frames) page) flat_sized (same page under)
      ∙ ap (λ (m : Memory). page_of s.geometry.cells m page) (memory ∙ ap (λ (k : ℕ). flat s k) all);
}

-- frames with another page than that machine's are not its
pub other_store : (s : Recorded) (store frames : Frames) (n : ℕ) → frames.geometry ≡ s.geometry → memory_of frames ≡ flat s n → n ≡ length s.guest →
    (page : ℕ) → page < frames.geometry.pages → page_of frames.geometry.cells (memory_of store) page ≢ page_of frames.geometry.cells (memory_of frames) page → IsFlatStore s store → ⊥
other_store s store frames n sized memory all page within other is =
    other (subst (λ (e : Extent). page_of e.cells (memory_of store) page ≡ page_of e.cells (memory_of frames) page) (sym sized)
    (is.pages page (subst (λ (e : Extent). page < e.pages) sized within)
    ∙ ap (λ (m : Memory). page_of s.geometry.cells m page) (sym (memory ∙ ap (λ (k : ℕ). flat s k) all))))
