-- The parts of the target's book, as the code comes to them.
use Rattle.std.proofs.Common.{◌≡◌, ℕ, zero, suc, ◌+◌, Bool, true, false, cond, ◌||◌, List, [], ◌∷◌, ◌++◌, length, Option, Some, get_or, replicate, refl, sym, ap, subst, ◌<◌, ◌∙◌, arith, length-append}
use Rattle.std.specs.List.{AllByRecursion}
use Rattle.migration_types.specs.declared.records.GuestRec.TheVariants.{Read, Write, Release, See}
use Rattle.migration_types.specs.Extents.{Extent}
use Rattle.migration_types.specs.PageSets.{no_page, without_page}
use Rattle.migration_events.specs.Ops.{page_in, OpFits}
use Rattle.migration_events.specs.declared.ops.Op.{Op}
use Rattle.migration_events.specs.declared.ops.Op.TheVariants.{Read as ReadCell, Write as WriteCell, Release as ReleasePage}
use Rattle.residency.specs.declared.Presence.{Presence}
use Rattle.residency.specs.declared.Presence.TheVariants.{Absent, Placed, Freed}
use Rattle.residency.specs.Placements.{number_of, is_freed, is_covered}
use Rattle.target_side.specs.TargetPart.{TargetPart, looks, does, done_over}
use Rattle.target_side.specs.Kept.{Held, marked, IsSized}
use Rattle.target_side.proofs.Logs.{each_push}

-- no mark is set
pub none_marked : (n : ℕ) → marked (replicate n false) ≡ no_page
none_marked n = λ i v. each n v i
  where
    each : (n v : ℕ) → get_or (replicate n false) v false ≡ false
    each zero v = refl
    each (suc n) zero = refl
    each (suc n) (suc v) = each n v

-- a look, where the frontier covers the placement and where it does not
pub looks_seen : (k : ℕ) (b : TargetPart) → is_covered (Some k) b.frontier ≡ true → looks k b ≡ b
looks_seen k b e = ap (λ t. cond t b (record b { log = b.log ++ See k ∷ []; frontier = Some k })) e

pub looks_unseen : (k : ℕ) (b : TargetPart) → is_covered (Some k) b.frontier ≡ false → looks k b ≡ record b { log = b.log ++ See k ∷ []; frontier = Some k }
looks_unseen k b e = ap (λ t. cond t b (record b { log = b.log ++ See k ∷ []; frontier = Some k })) e

-- whether a placed page is covered
pub placed_cover : (x : Presence) (k : ℕ) (f : Option ℕ) (c : Bool) → number_of x ≡ Some k → c ≡ (is_covered (number_of x) f || is_freed x) → is_covered (Some k) f ≡ c
placed_cover Absent k f c is told = absurd (cc)
placed_cover (Placed n) k f c is told = sym (told ∙ or_none (is_covered (Some n) f) ∙ ap (λ (o : Option ℕ). is_covered o f) is)
  where
    or_none : (s : Bool) → (s || false) ≡ s
    or_none true = refl
    or_none false = refl
placed_cover Freed k f c is told = absurd (cc)

-- a page more is to be settled
page_fits : (e : Extent) (op : Op) → OpFits e op → page_in op < e.pages
page_fits e (ReadCell p c) fits = fits.0
page_fits e (WriteCell p c x) fits = fits.0
page_fits e (ReleasePage p) fits = fits

pub unsettled_more : (e f : Extent) (op : Op) (all more : List ℕ) (p : ℕ) → f ≡ e → OpFits f op → p ≡ page_in op → more ≡ all ++ p ∷ [] → AllByRecursion (λ q. q < e.pages) all → AllByRecursion (λ q. q < e.pages) more
unsettled_more e f op all more p same fits on grown was =
    rw grown (each_push (λ q. q < e.pages) all p was (rw on (page_fits e op (subst (λ (x : Extent). OpFits x op) same fits))))

-- an operation is one record
one_record : (v : ℕ) (op : Op) (b : TargetPart) → length (does v op b).log ≡ length b.log + 1
one_record v (ReadCell p c) b = omega (arith, length-append b.log (Read v p c (b.memory p c) ∷ []))
one_record v (WriteCell p c x) b = omega (arith, length-append b.log (Write v p c x ∷ []))
one_record v (ReleasePage p) b = omega (arith, length-append b.log (Release v p ∷ []))

-- how long the log gets
pub seen_length : (v : ℕ) (op : Op) (k : ℕ) (b : TargetPart) → is_covered (Some k) b.frontier ≡ true → length (done_over (looks k) v op b).book.log ≡ length b.log + 1
seen_length v op k b seen =
    let c : TargetPart = record b { standing = without_page v b.standing } in
    one_record v op (looks k c) ∙ ap (λ (d : TargetPart). length d.log + 1) (looks_seen k c seen)

pub unseen_length : (v : ℕ) (op : Op) (k : ℕ) (b : TargetPart) → is_covered (Some k) b.frontier ≡ false → length (done_over (looks k) v op b).book.log ≡ length b.log + 2
unseen_length v op k b unseen =
    let c : TargetPart = record b { standing = without_page v b.standing } in
    let looked = one_record v op (looks k c) ∙ ap (λ (d : TargetPart). length d.log + 1) (looks_unseen k c unseen) in
    omega (arith, looked, length-append b.log (See k ∷ []))

-- sized for its own machine
pub sized_own : (e : Extent) (h : Held) → IsSized e h → IsSized h.frames.geometry h
sized_own e h sized = record {
  few = sized.few;
  frames = refl;
  places = sized.places ∙ sym sized.frames;
  marks = sized.marks;
  misses = subst (λ (x : Extent). AllByRecursion (λ m. m.page < x.pages) h.misses) (sym sized.frames) sized.misses;
  unsettled = subst (λ (x : Extent). AllByRecursion (λ p. p < x.pages) h.unsettled) (sym sized.frames) sized.unsettled;
}
