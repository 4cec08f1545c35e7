-- The walks over the logs, one record further.
use Rattle.std.proofs.Common.{◌≡◌, ℕ, zero, suc, ◌+◌, ◌<◌, ◌≤◌, ◌⊎◌, inl, inr, Bool, true, false, cond, not, ◌||◌, ◌&&◌, List, [], ◌∷◌, length, take, get_or, Option, Some, None, refl, sym, ap, ◌∙◌, subst, arith}
use Rattle.std.specs.Prelude.{slice_get, ◌==◌}
use Rattle.std.specs.List.{list_any}
use Rattle.std.proofs.lemmas.Bool.{cases_lt}
use Rattle.std.proofs.lemmas.List.{take_all}
use Rattle.migration_types.specs.declared.records.GuestRec.{GuestRec}
use Rattle.migration_types.specs.declared.records.PagerRec.{PagerRec}
use Rattle.migration_types.specs.PageSets.{Pages}
use Rattle.migration_types.specs.Sessions.{Recorded}
use Rattle.audit_model.specs.declared.home.Home.{Home}
use Rattle.audit_model.specs.Flat.{changed, home, home_after, freed, freed_after}
use Rattle.audit_model.specs.Shape.{earlier, passes, is_placement_of, is_taking}
use Rattle.flat_machine.specs.Machines.{ledger_after}
use Rattle.flat_machine.proofs.Stepping.{ledger_next}
use Rattle.balloon_ledger.specs.Released.{Marks, released, IsWith as HasReleased}
use Rattle.page_store.specs.Tables.{Values, values, IsWith, with_value}
use Rattle.completeness.specs.Complete.{settles, is_taken_left}
use Rattle.completeness.specs.inner.Least.{NonePass}
use Rattle.completeness.specs.inner.Walks.{IsLedger, AreFreed, ArePlaced, AreSettled, freed_by, placed_by}

-- ---- whole logs

or_moved : (a b c : Bool) → (a || (b || c)) ≡ (b || (a || c))
or_moved true true c = refl
or_moved true false c = refl
or_moved false true c = refl
or_moved false false c = refl

-- one record more
any_more : {A : Type 0} (test : A → Bool) (log : List A) (n : ℕ) → list_any test (take (suc n) log) ≡ changed (λ x found. test x || found) (slice_get log n) (list_any test (take n log))
any_more test [] zero = refl
any_more test [] (suc n) = refl
any_more test (x ∷ log) zero = refl
any_more {A} test (x ∷ log) (suc n) = ap (λ b. test x || b) (any_more test log n) ∙ go (slice_get log n)
  where
    go : (o : Option A) → (test x || changed (λ y found. test y || found) o (list_any test (take n log))) ≡ changed (λ y found. test y || found) o (test x || list_any test (take n log))
    go None = refl
    go (Some y) = or_moved (test x) (test y) (list_any test (take n log))

any_before : {A : Type 0} (test : A → Bool) (log : List A) (n : ℕ) → earlier test log n ≡ list_any test (take n log)
any_before test log zero = refl
any_before test log (suc n) = ap (λ b. changed (λ x found. test x || found) (slice_get log n) b) (any_before test log n) ∙ sym (any_more test log n)

-- an earlier record than the log's end passes where a record of the log does
pub any_of_all : {A : Type 0} (test : A → Bool) (log : List A) → earlier test log (length log) ≡ list_any test log
any_of_all test log = any_before test log (length log) ∙ ap (list_any test) (take_all (length log) log (omega arith))

-- ---- pages

pub ledger_on : (s : Recorded) (n : ℕ) (r : GuestRec) (old new : Marks) → slice_get s.guest n ≡ Some r → IsLedger s n old → HasReleased old new (ledger_after r (released old)) → IsLedger s (n + 1) new
ledger_on s n r old new is was on =
    let one : suc n ≡ n + 1 = omega arith in
    subst (λ k. IsLedger s k new) one (record {
      geometry = on.geometry ∙ was.geometry;
      set_is = on.set_is ∙ ap (λ (l : Pages). ledger_after r l) was.set_is ∙ ledger_next s n r is;
    })

freed_next : (s : Recorded) (n : ℕ) (r : GuestRec) → slice_get s.guest n ≡ Some r → freed_by (home s n) r (freed s n) ≡ freed s (suc n)
freed_next s n r is = λ i p. page p i
  where
    page : (p : ℕ) → freed_by (home s n) r (freed s n) p ≡ freed s (suc n) p
    page p = ap (λ o. changed (freed_after (home s n) p) o (freed s n p)) (sym is)

pub freed_on : (s : Recorded) (n : ℕ) (r : GuestRec) (h later : Home) (old new : Values Bool) → slice_get s.guest n ≡ Some r → AreFreed s n h old → IsWith old new (freed_by h r (values old)) → later ≡ home_after r h → AreFreed s (n + 1) later new
freed_on s n r h later old new is was on went =
    let one : suc n ≡ n + 1 = omega arith in
    subst (λ k. AreFreed s k later new) one (record {
      home_is = went ∙ ap (home_after r) was.home_is ∙ ap (λ o. changed home_after o (home s n)) (sym is);
      table = record {
        pages_are = on.pages ∙ was.table.pages_are;
        values_are = on.values_are ∙ ap (λ x. freed_by x r (values old)) was.home_is ∙ ap (freed_by (home s n) r) was.table.values_are ∙ freed_next s n r is;
      };
    })

placed_next : (s : Recorded) (n : ℕ) (r : PagerRec) → slice_get s.pager n ≡ Some r → placed_by r (λ page. earlier (is_placement_of page) s.pager n) ≡ (λ page. earlier (is_placement_of page) s.pager (suc n))
placed_next s n r is = λ i p. page p i
  where
    page : (p : ℕ) → placed_by r (λ q. earlier (is_placement_of q) s.pager n) p ≡ earlier (is_placement_of p) s.pager (suc n)
    page p = ap (λ o. changed (λ x found. is_placement_of p x || found) o (earlier (is_placement_of p) s.pager n)) (sym is)

pub placed_on : (s : Recorded) (n : ℕ) (r : PagerRec) (old new : Values Bool) → slice_get s.pager n ≡ Some r → ArePlaced s n old → IsWith old new (placed_by r (values old)) → ArePlaced s (n + 1) new
placed_on s n r old new is was on =
    let one : suc n ≡ n + 1 = omega arith in
    subst (λ k. ArePlaced s k new) one (record {
      pages_are = on.pages ∙ was.pages_are;
      values_are = on.values_are ∙ ap (placed_by r) was.values_are ∙ placed_next s n r is;
    })

-- a page that is marked is one that was placed
pub marked_placed : (page : ℕ) (at : ℕ → Bool) → with_value page true at ≡ (λ q. (page == q) || at q)
marked_placed page at = λ i q. each (page == q) (at q) i
  where
    each : (b c : Bool) → cond b true c ≡ (b || c)
    each true c = refl
    each false c = refl

-- ---- what was taken

-- what stands in a list stands there whatever is given for what does not
get_or_same : {A : Type 0} (xs : List A) (n : ℕ) (d e : A) → n < length xs → get_or xs n d ≡ get_or xs n e
get_or_same [] n d e lt = absurd (omega arith)
get_or_same (x ∷ xs) zero d e lt = refl
get_or_same (x ∷ xs) (suc n) d e lt = get_or_same xs n d e (omega (arith, lt))

-- a record behind the first, by its mark
pub left_at : (s : Recorded) (n : ℕ) (r : PagerRec) (marks : List Bool) (b : Bool) → 1 ≤ n → n < length s.pager → slice_get s.pager n ≡ Some r → AreSettled s (length s.pager) marks → b ≡ get_or marks n b → is_taken_left s n ≡ (is_taking r && not b)
left_at s zero r marks b behind lt is settled e = absurd (omega arith)
left_at s (suc n) r marks b behind lt is settled e =
    ap (λ o. passes is_taking o && not (list_any (settles (suc n)) s.pager)) is
    ∙ ap (λ x. is_taking r && not x) (sym (e ∙ get_or_same marks (suc n) b false (omega (arith, lt, settled.many)) ∙ settled.each (suc n) lt ∙ any_of_all (settles (suc n)) s.pager))

-- one number more that does not pass
pub none_more : (test : ℕ → Bool) (n : ℕ) → NonePass test n → test n ≡ false → NonePass test (n + 1)
none_more test n none here m lt = go (cases_lt m n)
  where
    go : (m < n) ⊎ (n ≤ m) → test m ≡ false
    go (inl l) = none m l
    go (inr ge) = let same : m ≡ n = omega arith in ap test same ∙ here
