-- One look more of the walk over the guest's log.
use Rattle.std.proofs.Common.{◌≡◌, ℕ, zero, suc, ◌+◌, ◌<◌, ◌≤◌, ◌⊎◌, inl, inr, Bool, true, false, ◌||◌, List, length, Option, Some, None, refl, sym, ap, ◌∙◌, subst, arith}
use Rattle.std.specs.Prelude.{slice_get, is_some}
use Rattle.std.proofs.lemmas.Bool.{cases_lt}
use Rattle.std.proofs.lemmas.Option.{slice_get_past}
use Rattle.migration_types.specs.declared.records.GuestRec.{GuestRec}
use Rattle.migration_types.specs.declared.records.GuestRec.TheVariants.{Read, Write, Release, Miss, Halt, Resume, See}
use Rattle.migration_types.specs.declared.records.PagerRec.{PagerRec}
use Rattle.migration_types.specs.Sessions.{Recorded}
use Rattle.audit_model.specs.Flat.{changed}
use Rattle.audit_model.specs.Shape.{passes, is_placement_of, earlier}
use Rattle.audit_model.specs.Faults.{looks_at}
use Rattle.page_store.proofs.Noting.{noted_none}
use Rattle.page_store.specs.Tables.{Values, values, IsWith}
use Rattle.page_facts.specs.Tables.{some_before, or_here, IsTable}
use Rattle.page_facts.specs.Moved.{placed_by}
use Rattle.page_facts.proofs.Judging.{here_by}
use Rattle.page_facts.proofs.Before.{some_true, some_false}
use Rattle.page_facts.proofs.Moving.{places, placed_here}
use Rattle.page_facts.specs.declared.looks.Looks.{Looks}
use Rattle.page_facts.specs.Looks.{look_of, first_look, is_placed, AreNoted, AreLooks, AreLooksOf}

-- ---- earlier records

pub earlier_some : {A : Type 0} (test : A → Bool) (log : List A) (n : ℕ) → earlier test log n ≡ some_before (λ m. test) log n
earlier_some test log zero = refl
earlier_some {A} test log (suc n) = go (slice_get log n) ∙ ap (λ b. passes test (slice_get log n) || b) (earlier_some test log n)
  where
    go : (o : Option A) → changed (λ x found. test x || found) o (earlier test log n) ≡ (passes test o || earlier test log n)
    go None = refl
    go (Some x) = refl

-- what one of the first records passes, one of more does
pub some_up : {A : Type 0} (test : ℕ → A → Bool) (log : List A) (m n : ℕ) → m ≤ n → some_before test log m ≡ true → some_before test log n ≡ true
some_up test log m n le e = go (some_before test log n) refl
  where
    go : (b : Bool) → some_before test log n ≡ b → b ≡ true
    go true f = refl
    go false f = let w = some_true test log m e in let no_one = some_false test log n f w.0 w.1 w.2 (omega (arith, w.4)) in let yes_one = w.3 in absurd (cc)

some_down : {A : Type 0} (test : ℕ → A → Bool) (log : List A) (m n : ℕ) → m ≤ n → some_before test log n ≡ false → some_before test log m ≡ false
some_down test log m n le e = go (some_before test log m) refl
  where
    go : (b : Bool) → some_before test log m ≡ b → b ≡ false
    go false f = refl
    go true f = let t = some_up test log m n le f in absurd (cc)

-- behind the log's end no record passes
some_past : {A : Type 0} (test : ℕ → A → Bool) (log : List A) (n : ℕ) → length log ≤ n → some_before test log n ≡ some_before test log (length log)
some_past test log n le = go (some_before test log n) refl
  where
    go : (b : Bool) → some_before test log n ≡ b → b ≡ some_before test log (length log)
    go false f = sym (some_down test log (length log) n le f)
    go true f = let w = some_true test log n f in sym (within w.0 w.1 w.2 w.3 (cases_lt w.0 (length log)))
      where
        within : (m : ℕ) (r : _) → slice_get log m ≡ Some r → test m r ≡ true → (m < length log) ⊎ (length log ≤ m) → some_before test log (length log) ≡ true
        within m r is t (inl lt) = at (some_before test log (length log)) refl
          where
            at : (b : Bool) → some_before test log (length log) ≡ b → b ≡ true
            at true e = refl
            at false e = let no_one = some_false test log (length log) e m r is lt in absurd (cc)
        within m r is t (inr past) = let none = slice_get_past log m past in absurd (cc)

-- ---- noting

noted_same : (o : Option ℕ) (b : Bool) (n : ℕ) → is_some o ≡ b → or_here o b n ≡ o
noted_same None true n e = absurd (cc)
noted_same None false n e = refl
noted_same (Some k) b n e = refl

noted_twice : (o : Option ℕ) (t b : Bool) (n : ℕ) → or_here o (t || b) n ≡ or_here (or_here o b n) t n
noted_twice (Some k) t b n = refl
noted_twice None true true n = refl
noted_twice None false true n = refl
noted_twice None true false n = refl
noted_twice None false false n = refl

table_same : (pages : ℕ) (table : Values (Option ℕ)) (f g : ℕ → Option ℕ) → IsTable pages table f → ((p : ℕ) → g p ≡ f p) → IsTable pages table g
table_same pages table f g is same = record { pages_are = is.pages_are; values_are = is.values_are ∙ all }
  where
    all : f ≡ g
    all = λ i p. sym (same p) i

pub noted_start : (s : Recorded) (n : ℕ) (looks : Looks) → AreLooks s n looks → AreNoted s n looks.reached looks.first
noted_start s n looks is = table_same s.geometry.pages looks.first (first_look s n) (λ p. or_here (first_look s n p) (is_placed s looks.reached p) n) is.table (λ p. noted_same (first_look s n p) (is_placed s looks.reached p) n (is.known p))

pub noted_more : (s : Recorded) (n m : ℕ) (r : PagerRec) (old new : Values (Option ℕ)) → slice_get s.pager m ≡ Some r → AreNoted s n m old → IsWith old new (placed_by n r (values old)) → AreNoted s n (m + 1) new
noted_more s n m r old new is noted on =
    let one : suc m ≡ m + 1 = omega arith in
    subst (λ k. AreNoted s n k new) one (table_same s.geometry.pages new (here_by places n r before_it) (λ p. or_here (first_look s n p) (is_placed s (suc m) p) n) more
    (λ p. ap (λ o. or_here (first_look s n p) (passes (is_placement_of p) o || is_placed s m p) n) is ∙ noted_twice (first_look s n p) (is_placement_of p r) (is_placed s m p) n))
  where
    before_it : ℕ → Option ℕ
    before_it p = or_here (first_look s n p) (is_placed s m p) n

    more : IsTable s.geometry.pages new (here_by places n r before_it)
    more = record {
      pages_are = on.pages ∙ noted.pages_are;
      values_are = on.values_are ∙ placed_here n r (values old) ∙ ap (λ (f : ℕ → Option ℕ). here_by places n r f) noted.values_are;
    }

-- ---- a look

-- the pager's records that a look at this placement reaches
placed_to : (s : Recorded) (k to : ℕ) (page : ℕ) → ((k < length s.pager) × (to ≡ k + 1)) ⊎ ((length s.pager ≤ k) × (to ≡ length s.pager)) → looks_at s page (See k) ≡ is_placed s to page
placed_to s k to page (inl h) = let e : suc k ≡ to = omega (arith, h.1) in earlier_some (is_placement_of page) s.pager (suc k) ∙ ap (λ n. is_placed s n page) e
placed_to s k to page (inr h) = earlier_some (is_placement_of page) s.pager (suc k) ∙ some_past (λ m. is_placement_of page) s.pager (suc k) (omega (arith, h.0)) ∙ ap (λ n. is_placed s n page) (sym h.1)

known_more : (o : Option ℕ) (b c : Bool) (n : ℕ) → is_some o ≡ b → (b ≡ true → c ≡ true) → is_some (or_here o c n) ≡ c
known_more None b c n e up = at c
  where
    at : (c : Bool) → is_some (or_here None c n) ≡ c
    at true = refl
    at false = refl
known_more (Some k) b c n e up = sym (up (sym e))

known_less : (o : Option ℕ) (b c : Bool) (n : ℕ) → is_some o ≡ b → (b ≡ false → c ≡ false) → or_here o c n ≡ o
known_less None b c n e down = ap (λ t. or_here None t n) (down (sym e))
known_less (Some k) b c n e down = refl

module _ (s : Recorded) (n k to : ℕ) (reach : ((k < length s.pager) × (to ≡ k + 1)) ⊎ ((length s.pager ≤ k) × (to ≡ length s.pager))) where
  -- the look reaches further
  pub look_further : (old new : Looks) → AreLooks s n old → old.reached < to → to ≤ length s.pager → AreNoted s n to new.first → new.reached ≡ to → AreLooksOf s (λ page. or_here (first_look s n page) (looks_at s page (See k)) n) new
  look_further old new is lt within noted reached = record {
    table = table_same s.geometry.pages new.first (λ p. or_here (first_look s n p) (is_placed s to p) n) (λ p. or_here (first_look s n p) (looks_at s p (See k)) n) noted (λ p. ap (λ b. or_here (first_look s n p) b n) (placed_to s k to p reach));
    known = λ p.
        ap (λ b. is_some (or_here (first_look s n p) b n)) (placed_to s k to p reach)
        ∙ known_more (first_look s n p) (is_placed s old.reached p) (is_placed s to p) n (is.known p) (λ e. some_up (λ m. is_placement_of p) s.pager old.reached to (omega arith) e)
        ∙ ap (λ r. is_placed s r p) (sym reached);
    within = omega arith;
  }

  -- it does not
  pub look_same : (old : Looks) → AreLooks s n old → to ≤ old.reached → AreLooksOf s (λ page. or_here (first_look s n page) (looks_at s page (See k)) n) old
  look_same old is le = record {
    table = table_same s.geometry.pages old.first (first_look s n) (λ p. or_here (first_look s n p) (looks_at s p (See k)) n) is.table same;
    known = λ p. ap (λ o. is_some o) (same p) ∙ is.known p;
    within = is.within;
  }
    where
      same : (p : ℕ) → or_here (first_look s n p) (looks_at s p (See k)) n ≡ first_look s n p
      same p = ap (λ b. or_here (first_look s n p) b n) (placed_to s k to p reach) ∙ known_less (first_look s n p) (is_placed s old.reached p) (is_placed s to p) n (is.known p) (λ e. some_down (λ m. is_placement_of p) s.pager to old.reached le e)

-- ---- the walk

looks_of_same : (s : Recorded) (f g : ℕ → Option ℕ) (looks : Looks) → ((p : ℕ) → g p ≡ f p) → AreLooksOf s f looks → AreLooksOf s g looks
looks_of_same s f g looks same is = record {
  table = table_same s.geometry.pages looks.first f g is.table same;
  known = λ p. ap (λ o. is_some o) (same p) ∙ is.known p;
  within = is.within;
}

look_is : (r : GuestRec) (k : ℕ) → look_of r ≡ Some k → r ≡ See k
look_is (See j) k e = let same : j ≡ k = cc in ap (λ i. See i) same
look_is (Read v q d x) k e = absurd (cc)
look_is (Write v q d x) k e = absurd (cc)
look_is (Release v q) k e = absurd (cc)
look_is (Miss v q) k e = absurd (cc)
look_is Halt k e = absurd (cc)
look_is (Resume i) k e = absurd (cc)

no_look : (s : Recorded) (p : ℕ) (r : GuestRec) → look_of r ≡ None → looks_at s p r ≡ false
no_look s p (See j) e = absurd (cc)
no_look s p (Read v q d x) e = refl
no_look s p (Write v q d x) e = refl
no_look s p (Release v q) e = refl
no_look s p (Miss v q) e = refl
no_look s p Halt e = refl
no_look s p (Resume i) e = refl

pub looks_more : (s : Recorded) (n k : ℕ) (r : GuestRec) (looks : Looks) → slice_get s.guest n ≡ Some r → look_of r ≡ Some k → AreLooksOf s (λ page. or_here (first_look s n page) (looks_at s page (See k)) n) looks → AreLooks s (n + 1) looks
looks_more s n k r looks is sees more =
    let one : n + 1 ≡ suc n = omega arith in
    subst (λ m. AreLooks s m looks) (sym one)
    (looks_of_same s (λ p. or_here (first_look s n p) (looks_at s p (See k)) n) (first_look s (suc n)) looks (λ p. ap (λ o. or_here (first_look s n p) (passes (looks_at s p) o) n) is ∙ ap (λ x. or_here (first_look s n p) (looks_at s p x) n) (look_is r k sees)) more)

pub looks_kept : (s : Recorded) (n : ℕ) (r : GuestRec) (looks : Looks) → slice_get s.guest n ≡ Some r → look_of r ≡ None → AreLooks s n looks → AreLooks s (n + 1) looks
looks_kept s n r looks is none same =
    let one : n + 1 ≡ suc n = omega arith in
    subst (λ m. AreLooks s m looks) (sym one)
    (looks_of_same s (first_look s n) (first_look s (suc n)) looks (λ p. ap (λ o. or_here (first_look s n p) (passes (looks_at s p) o) n) is ∙ ap (λ b. or_here (first_look s n p) b n) (no_look s p r none) ∙ noted_none (first_look s n p) n) same)
