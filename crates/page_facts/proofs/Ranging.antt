-- The pages of a range at the next record of the guest.
use Rattle.std.proofs.Common.{◌≡◌, ◌≢◌, ℕ, zero, suc, ◌+◌, ◌<◌, ◌≤◌, Bool, true, false, cond, ◌&&◌, List, [], ◌∷◌, length, Option, Some, None, refl, sym, ap, ◌∙◌, subst, arith, eq-eqb}
use Rattle.std.specs.Prelude.{slice_get, slice_set, ◌==◌, ◌||◌}
use Rattle.std.proofs.lemmas.Bool.{eqb-true}
use Rattle.migration_types.specs.declared.records.GuestRec.{GuestRec}
use Rattle.migration_types.specs.declared.records.GuestRec.TheVariants.{Read, Write, Release, Miss, Halt, Resume, See}
use Rattle.migration_types.specs.Extents.{Extent}
use Rattle.migration_types.specs.Memory.{Memory}
use Rattle.migration_types.specs.Sessions.{Recorded}
use Rattle.audit_model.specs.Flat.{flat, home, is_target}
use Rattle.audit_model.specs.Shape.{passes, is_release}
use Rattle.audit_model.specs.Certificates.{is_touch_of}
use Rattle.page_store.specs.Frames.{memory_of}
use Rattle.page_store.proofs.Noting.{noted_none}
use Rattle.migration_types.specs.Paged.{guest_page}
use Rattle.migration_types.specs.Paged.{of_page, is_page}
use Rattle.page_facts.specs.Tables.{or_here, first_before}
use Rattle.page_facts.specs.Judged.{is_late_touch, releases_at}
use Rattle.page_facts.specs.declared.range.PageState.{PageState}
use Rattle.page_facts.specs.declared.range.Range.{Range}
use Rattle.page_facts.specs.Machines.{late_after}
use Rattle.page_facts.specs.Ranges.{cells_by, released_by, wrong_at, IsSeen, IsSeenOn, touch_at, releases_by, memory_by, IsStepOn, AreSeen, IsRange}
use Rattle.page_facts.proofs.Judging.{late_next}
use Rattle.page_facts.proofs.Framing.{flat_same, ledger_same, wrong_same, flat_on, ledger_on, wrong_on}

-- ---- lists with an item given anew

pub length_set : {A : Type 0} (xs : List A) (k : ℕ) (y : A) → length (slice_set xs k y) ≡ length xs
length_set [] k y = refl
length_set (x ∷ xs) zero y = refl
length_set (x ∷ xs) (suc k) y = ap suc (length_set xs k y)

pub set_here : {A : Type 0} (xs : List A) (k : ℕ) (y w : A) → slice_get (slice_set xs k y) k ≡ Some w → (v : A) × (slice_get xs k ≡ Some v) × (y ≡ w)
set_here [] k y w is = absurd (cc)
set_here (x ∷ xs) zero y w is = (x, refl, cc)
set_here (x ∷ xs) (suc k) y w is = set_here xs k y w is

pub set_other : {A : Type 0} (xs : List A) (k j : ℕ) (y : A) → k ≢ j → slice_get (slice_set xs k y) j ≡ slice_get xs j
set_other [] k j y ne = refl
set_other (x ∷ xs) zero zero y ne = absurd (ne refl)
set_other (x ∷ xs) zero (suc j) y ne = refl
set_other (x ∷ xs) (suc k) zero y ne = refl
set_other (x ∷ xs) (suc k) (suc j) y ne = set_other xs k j y (λ e. ne (ap suc e))

pub unlike : (p q : ℕ) → p ≢ q → (p == q) ≡ false
unlike p q ne = go (p == q) refl
  where
    go : (b : Bool) → (p == q) ≡ b → (p == q) ≡ false
    go true e = absurd (ne (eqb-true p q e))
    go false e = e

-- ---- what a record makes of the memory

memory_own : (k : ℕ) (r : GuestRec) (m : Memory) → memory_by k r m k ≡ cells_by r (m k)
memory_own k r m = λ i c. go r c i
  where
    go : (r : GuestRec) (c : ℕ) → memory_by k r m k c ≡ cells_by r (m k) c
    go (Write v p d x) c = ap (λ b. cond (b && (d == c)) x (m k c)) (eq-eqb k k refl)
    go (Release v p) c = ap (λ b. cond b 0 (m k c)) (eq-eqb k k refl)
    go (Read v p d x) c = refl
    go (Miss v p) c = refl
    go Halt c = refl
    go (Resume i) c = refl
    go (See k) c = refl

memory_other : (k j : ℕ) (r : GuestRec) (m : Memory) → (k == j) ≡ false → memory_by k r m j ≡ m j
memory_other k j r m e = λ i c. go r c i
  where
    go : (r : GuestRec) (c : ℕ) → memory_by k r m j c ≡ m j c
    go (Write v p d x) c = ap (λ b. cond (b && (d == c)) x (m j c)) e
    go (Release v p) c = ap (λ b. cond b 0 (m j c)) e
    go (Read v p d x) c = refl
    go (Miss v p) c = refl
    go Halt c = refl
    go (Resume i) c = refl
    go (See k) c = refl

-- ---- one page at the next record

module _ (s : Recorded) (page n : ℕ) (r : GuestRec) (is : slice_get s.guest n ≡ Some r) where
  abbrev first_touch : ℕ → Option ℕ
  first_touch k = first_before (is_late_touch s page) s.guest k

  touch_next : first_touch (suc n) ≡ or_here (first_touch n) (is_late_touch s page n r) n
  touch_next = ap (λ o. or_here (first_touch n) (passes (is_late_touch s page n) o) n) is

  touch_off : of_page guest_page page r ≡ false → is_late_touch s page n r ≡ false
  touch_off other = go r other
    where
      go : (r : GuestRec) → of_page guest_page page r ≡ false → (is_touch_of page r && is_target (home s n)) ≡ false
      go (Read v p d x) e = ap (λ b. b && is_target (home s n)) e
      go (Write v p d x) e = ap (λ b. b && is_target (home s n)) e
      go (Release v p) e = ap (λ b. b && is_target (home s n)) e
      go (Miss v p) e = refl
      go Halt e = refl
      go (Resume i) e = refl
      go (See k) e = refl

  touch_on : (late : Bool) → late ≡ is_target (home s n) → of_page guest_page page r ≡ true → (old : Option ℕ) → touch_at n late r old ≡ or_here old (is_late_touch s page n r) n
  touch_on late at own old = ap (λ b. touch_at n b r old) at ∙ go r own
    where
      go : (r : GuestRec) → of_page guest_page page r ≡ true → touch_at n (is_target (home s n)) r old ≡ or_here old (is_touch_of page r && is_target (home s n)) n
      go (Read v p d x) e = sym (ap (λ b. or_here old (b && is_target (home s n)) n) e)
      go (Write v p d x) e = sym (ap (λ b. or_here old (b && is_target (home s n)) n) e)
      go (Release v p) e = sym (ap (λ b. or_here old (b && is_target (home s n)) n) e)
      go (Miss v p) e = sym (noted_none old n)
      go Halt e = sym (noted_none old n)
      go (Resume i) e = sym (noted_none old n)
      go (See k) e = sym (noted_none old n)

  -- a first touch is a release if its record is one
  releases_on : (late : Bool) (old : Option ℕ) → releases_by late r old (releases_at s old) ≡ releases_at s (touch_at n late r old)
  releases_on late old = go r is late old
    where
      kept : (b late : Bool) → (b || (late && false)) ≡ b
      kept true late = refl
      kept false true = refl
      kept false false = refl

      at : (x : GuestRec) → slice_get s.guest n ≡ Some x → is_release x ≡ releases_at s (Some n)
      at x is = sym (ap (λ o. passes is_release o) is)

      go : (x : GuestRec) → slice_get s.guest n ≡ Some x → (late : Bool) (old : Option ℕ) → releases_by late x old (releases_at s old) ≡ releases_at s (touch_at n late x old)
      go (Read v p d y) is late (Some k) = refl
      go (Read v p d y) is true None = at (Read v p d y) is
      go (Read v p d y) is false None = refl
      go (Write v p d y) is late (Some k) = refl
      go (Write v p d y) is true None = at (Write v p d y) is
      go (Write v p d y) is false None = refl
      go (Release v p) is late (Some k) = kept (releases_at s (Some k)) late
      go (Release v p) is true None = at (Release v p) is
      go (Release v p) is false None = refl
      go (Miss v p) is late old = refl
      go Halt is late old = refl
      go (Resume i) is late old = refl
      go (See k) is late old = refl

  -- a record of another page leaves all as it was
  seen_same : of_page guest_page page r ≡ false → (cells : ℕ → ℕ) (v : PageState) → IsSeen s page n cells v → IsSeen s page (suc n) cells v
  seen_same other cells v was =
      let le : n ≤ suc n = omega arith in
      record {
        memory = was.memory ∙ sym (flat_same s page n (suc n) le none);
        released = was.released ∙ sym (ledger_same s page n (suc n) le none);
        wrong = was.wrong ∙ sym (wrong_same s page n (suc n) le none);
        touch = was.touch ∙ sym (touch_next ∙ ap (λ b. or_here (first_touch n) b n) (touch_off other) ∙ noted_none (first_touch n) n);
        releases = was.releases;
      }
    where
      none : (k : ℕ) → n ≤ k → k < suc n → passes (of_page guest_page page) (slice_get s.guest k) ≡ false
      none k a b = let e : n ≡ k = omega (arith, a, b) in subst (λ j. passes (of_page guest_page page) (slice_get s.guest j) ≡ false) e (ap (λ o. passes (of_page guest_page page) o) is ∙ other)

  -- a record of the page
  seen_on : (late : Bool) → late ≡ is_target (home s n) → of_page guest_page page r ≡ true → (cells : ℕ → ℕ) (v w : PageState) → IsSeen s page n cells v → IsSeenOn r n late cells v w → IsSeen s page (suc n) (cells_by r cells) w
  seen_on late at own cells v w was on = record {
    memory = ap (λ (m : ℕ → ℕ). cells_by r m) was.memory ∙ flat_on s page n r is own;
    released = on.released ∙ ap (λ b. released_by r b) was.released ∙ ledger_on s page n r is own;
    wrong = on.wrong ∙ ap (λ (m : ℕ → ℕ). wrong_at n r m v.wrong) was.memory ∙ ap (λ o. wrong_at n r (flat s n page) o) was.wrong ∙ wrong_on s page n r is own;
    touch = on.touch ∙ ap (λ o. touch_at n late r o) was.touch ∙ touch_on late at own (first_touch n) ∙ sym touch_next;
    releases = on.releases ∙ ap (λ b. releases_by late r v.touch b) was.releases ∙ releases_on late v.touch ∙ ap (λ o. releases_at s o) (sym on.touch);
  }

-- the same in other words
seen_as : (s : Recorded) (p q n m : ℕ) (cells more : ℕ → ℕ) (v w : PageState) → p ≡ q → n ≡ m → cells ≡ more → v ≡ w → IsSeen s p n cells v → IsSeen s q m more w
seen_as s p q n m cells more v w a b c d h = subst (λ k. IsSeen s k m more w) a (subst (λ k. IsSeen s p k more w) b (subst (λ (f : ℕ → ℕ). IsSeen s p n f w) c (subst (λ (x : PageState). IsSeen s p n cells x) d h)))

-- ---- all pages of the range

module _ (s : Recorded) (n : ℕ) (r : GuestRec) (is : slice_get s.guest n ≡ Some r) where
  one : suc n ≡ n + 1
  one = omega arith

  -- a record of none of them
  pub range_same : (g : Range) → ((k : ℕ) → k < length g.seen.items → of_page guest_page (g.first + k) r ≡ false) → AreSeen s n g → AreSeen s (n + 1) g
  range_same g none was = record {
    pages = was.pages;
    cells = was.cells;
    within = was.within;
    each = λ k v at. subst (λ m. IsSeen s (g.first + k) m (memory_of g.cells k) v) one (seen_same s (g.first + k) n r is (none k (Rattle.std.proofs.lemmas.Option.slice_get_within g.seen.items k v at)) (memory_of g.cells k) v (was.each k v at));
  }

  -- a record of the page at an index of the range
  pub range_on : (k p : ℕ) (old new : Range) → guest_page r ≡ Some p → p ≡ old.first + k → old.late ≡ is_target (home s n) → IsStepOn k n r old new → AreSeen s n old → AreSeen s (n + 1) new
  range_on k p old new of here at on was = record {
    pages = ap (λ (e : Extent). e.pages) on.cells.geometry ∙ was.pages ∙ sym long;
    cells = ap (λ (e : Extent). e.cells) on.cells.geometry ∙ was.cells;
    within = within;
    each = λ j v stands. by j v stands (k == j) refl;
  }
    where
      long : length new.seen.items ≡ length old.seen.items
      long = ap length on.seen ∙ length_set old.seen.items k on.next

      within : new.first + length new.seen.items ≤ s.geometry.pages
      within = let a = on.first in let b = long in let c = was.within in omega (arith, a, b, c)

      page_is : (q : ℕ) → of_page guest_page q r ≡ (p == q)
      page_is q = ap (λ o. is_page o q) of

      by : (j : ℕ) (v : PageState) → slice_get new.seen.items j ≡ Some v → (b : Bool) → (k == j) ≡ b → IsSeen s (new.first + j) (n + 1) (memory_of new.cells j) v
      by j v stands true e =
          let same : k ≡ j = eqb-true k j e in
          let set : slice_get (slice_set old.seen.items k on.next) k ≡ Some v = ap (λ (xs : List PageState). slice_get xs k) (sym on.seen) ∙ ap (λ i. slice_get new.seen.items i) same ∙ stands in
          let h = set_here old.seen.items k on.next v set in
          let own : of_page guest_page (old.first + k) r ≡ true = page_is (old.first + k) ∙ eq-eqb p (old.first + k) here in
          let place : old.first + k ≡ new.first + j = let f = on.first in omega (arith, f, same) in
          let cells : cells_by r (memory_of old.cells k) ≡ memory_of new.cells j = sym (ap (λ i. memory_of new.cells i) (sym same) ∙ ap (λ (m : Memory). m k) on.cells.memory_is ∙ memory_own k r (memory_of old.cells)) in
          seen_as s (old.first + k) (new.first + j) (suc n) (n + 1) (cells_by r (memory_of old.cells k)) (memory_of new.cells j) on.next v place one cells h.2
          (seen_on s (old.first + k) n r is old.late at own (memory_of old.cells k) h.0 on.next (was.each k h.0 h.1) (on.on h.0 h.1))
      by j v stands false e =
          let ne : k ≢ j = λ same. absurd (let t = eq-eqb k j same in cc) in
          let before : slice_get old.seen.items j ≡ Some v = sym (set_other old.seen.items k j on.next ne) ∙ ap (λ (xs : List PageState). slice_get xs j) (sym on.seen) ∙ stands in
          let far : p ≢ old.first + j = λ same. ne (omega (arith, same, here)) in
          let other : of_page guest_page (old.first + j) r ≡ false = page_is (old.first + j) ∙ unlike p (old.first + j) far in
          let place : old.first + j ≡ new.first + j = let f = on.first in omega (arith, f) in
          let cells : memory_of old.cells j ≡ memory_of new.cells j = sym (ap (λ (m : Memory). m j) on.cells.memory_is ∙ memory_other k j r (memory_of old.cells) e) in
          seen_as s (old.first + j) (new.first + j) (suc n) (n + 1) (memory_of old.cells j) (memory_of new.cells j) v v place one cells refl
          (seen_same s (old.first + j) n r is other (memory_of old.cells j) v (was.each j v before))

-- a record of one page is of no other
pub none_of : (r : GuestRec) (p q : ℕ) → guest_page r ≡ Some p → p ≢ q → of_page guest_page q r ≡ false
none_of r p q of ne = ap (λ o. is_page o q) of ∙ unlike p q ne

-- a record that uses no page
pub range_past : (s : Recorded) (n : ℕ) (r : GuestRec) → slice_get s.guest n ≡ Some r → (g : Range) (late : Bool) → guest_page r ≡ None → late ≡ late_after r g.late → IsRange s n g → IsRange s (n + 1) (record g { late = late })
range_past s n r is g late pageless now was =
    let seen = range_same s n r is g (λ k lt. ap (λ o. is_page o (g.first + k)) pageless) was.seen in
    record {
      late = now ∙ late_next s n r g.late is was.late;
      seen = record { pages = seen.pages; cells = seen.cells; within = seen.within; each = seen.each };
    }
