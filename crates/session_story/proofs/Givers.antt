-- Which placements may have given a read its value.
use Rattle.std.proofs.Common.{◌≡◌, ℕ, zero, suc, ◌<◌, ◌≤◌, ◌⊎◌, inl, inr, Bool, true, false, cond, nat_le, ◌&&◌, List, length, Option, Some, None, refl, sym, ap, ◌∙◌, subst, arith}
use Rattle.std.specs.Prelude.{slice_get, Decides, MatchOption}
use Rattle.std.proofs.lemmas.Bool.{cases_lt, ltb-true, ltb-false, leb-true, leb-false, lt-ltb, le-leb, and_from, and_parts}
use Rattle.std.proofs.lemmas.Option.{slice_get_within}
use Rattle.migration_types.specs.declared.records.GuestRec.TheVariants.{Read}
use Rattle.migration_types.specs.declared.records.PagerRec.{PagerRec}
use Rattle.migration_types.specs.declared.records.PagerRec.TheVariants.{Got, Pull, Ready, Fault, Join, Want, Place, Zero, Skip, All}
use Rattle.migration_types.specs.Sessions.{Recorded}
use Rattle.audit_model.specs.Shape.{passes, is_placement_of}
use Rattle.page_facts.specs.Tables.{first_before}
use Rattle.page_facts.proofs.Before.{first_none, first_some}
use Rattle.session_story.specs.Giving.{IsFirstGiver, IsGiver, MayBeLast, MayFollow, MayFollowChange, MayGive, MayPrecede, is_unseen, puts}
use Rattle.session_story.specs.Looks.{HasNoLook, IsFurthestLook, IsGreatestLook}
use Rattle.session_story.specs.Scans.{last_before}
use Rattle.session_story.specs.Values.{sets}
use Rattle.session_story.specs.inner.Questions.{knows_behind}
use Rattle.session_story.specs.declared.looks.Look.{Look}

-- ---- the last record that passes a test

-- none passes
pub last_none : {A : Type 0} (test : ℕ → A → Bool) (log : List A) (n : ℕ) → last_before test log n ≡ None → (m : ℕ) (r : A) → slice_get log m ≡ Some r → m < n → test m r ≡ false
last_none test log zero e m r is lt = absurd (omega arith)
last_none {A} test log (suc n) e m r is lt = go (λ f l. last_none test log n f m r is l) (passes (test n) (slice_get log n)) refl e (cases_lt m n)
  where
    go : (last_before test log n ≡ None → m < n → test m r ≡ false) → (b : Bool) → passes (test n) (slice_get log n) ≡ b → cond b (Some n) (last_before test log n) ≡ None → (m < n) ⊎ (n ≤ m) → test m r ≡ false
    go rec true t e _ = absurd (cc)
    go rec false t e (inl l) = rec e l
    go rec false t e (inr l) = let same : m ≡ n = omega arith in sym (ap (λ o. passes (test m) o) is) ∙ ap (λ k. passes (test k) (slice_get log k)) same ∙ t

-- this one does, and none behind it
pub record IsLastAt {A : Type 0} (test : ℕ → A → Bool) (log : List A) (n k : ℕ) : Type 0 where
  pub by : A
  pub stands : slice_get log k ≡ Some by
  pub passes_test : test k by ≡ true
  pub below : k < n
  pub is_last : (m : ℕ) (r : A) → slice_get log m ≡ Some r → k < m → m < n → test m r ≡ false

pub last_some : {A : Type 0} (test : ℕ → A → Bool) (log : List A) (n k : ℕ) → last_before test log n ≡ Some k → IsLastAt test log n k
last_some test log zero k e = absurd (cc)
last_some {A} test log (suc n) k e = go (λ f. last_some test log n k f) (slice_get log n) refl e
  where
    up : IsLastAt test log n k → ((r : A) → slice_get log n ≡ Some r → test n r ≡ false) → IsLastAt test log (suc n) k
    up f fails = let b = f.below in record { by = f.by; stands = f.stands; passes_test = f.passes_test; below = omega arith; is_last = λ m r is above lt. behind m r is above (cases_lt m n) lt }
      where
        behind : (m : ℕ) (r : A) → slice_get log m ≡ Some r → k < m → (m < n) ⊎ (n ≤ m) → m < suc n → test m r ≡ false
        behind m r is above (inl l) _ = f.is_last m r is above l
        behind m r is above (inr l) lt = let same : m ≡ n = omega arith in subst (λ j. test j r ≡ false) (sym same) (fails r (ap (λ j. slice_get log j) (sym same) ∙ is))

    at : (last_before test log n ≡ Some k → IsLastAt test log n k) → (r : A) → slice_get log n ≡ Some r → (b : Bool) → test n r ≡ b → cond b (Some n) (last_before test log n) ≡ Some k → IsLastAt test log (suc n) k
    at rec r is true t e =
        let same : n ≡ k = cc in
        subst (λ j. IsLastAt test log (suc n) j) same (record { by = r; stands = is; passes_test = t; below = omega arith; is_last = λ m x at above lt. absurd (omega (arith, above, lt)) })
    at rec r is false t e = up (rec e) (λ x there. let same : x ≡ r = cc in ap (λ y. test n y) same ∙ t)

    go : (last_before test log n ≡ Some k → IsLastAt test log n k) → (o : Option A) → slice_get log n ≡ o → cond (passes (test n) o) (Some n) (last_before test log n) ≡ Some k → IsLastAt test log (suc n) k
    go rec None is e = up (rec e) (λ x there. absurd (cc))
    go rec (Some r) is e = at rec r is (test n r) refl e

-- ---- what the guest has seen

module _ (s : Recorded) (n : ℕ) where
  pub unseen_follow : (look : Option Look) → IsFurthestLook s n look → (q : ℕ) → Decides (is_unseen look q) (MayFollow s q n)
  unseen_follow None none q = (λ e m k lt at. absurd (none m k lt at), λ may. refl)
  unseen_follow (Some l) is q = (λ e m k lt at. let above = ltb-true l.placement q e in let most = is.is_greatest m k lt at in omega (arith, above, most), λ may. lt-ltb l.placement q (may l.place l.placement is.is_before is.is_look))

module _ (s : Recorded) (n page cell : ℕ) where
  pub none_set : last_before (λ m. sets page cell) s.guest n ≡ None → (q : ℕ) → Decides true (MayFollowChange s n page cell q)
  none_set none q = (λ e d by. absurd (cc), λ may. refl)

  pub after_change : (d : ℕ) → last_before (λ m. sets page cell) s.guest n ≡ Some d → (q : ℕ) (b : Bool) → Decides b (MayFollow s q d) → Decides b (MayFollowChange s n page cell q)
  after_change d by q b is = (λ e k at. let same : d ≡ k = cc in subst (λ j. MayFollow s q j) same (is.0 e), λ may. is.1 (may d by))

-- ---- the last placement that it has seen

module _ (s : Recorded) (n page : ℕ) where
  pub unseen : HasNoLook s n → (q : ℕ) → Decides (nat_le 0 q) (MayBeLast s n page q)
  unseen none q = (λ e m r above at is j k lt look. absurd (none j k lt look), λ last. le-leb 0 q (omega arith))

  module _ (l : Look) (is : IsGreatestLook s n l) where
    abbrev seen : ℕ → PagerRec → Bool
    seen m r = is_placement_of page r && nat_le m l.placement

    -- a placement that is not among those seen may follow
    past : (m : ℕ) (r : PagerRec) → is_placement_of page r ≡ true → seen m r ≡ false → MayFollow s m n
    past m r places not j k lt look =
        let late : nat_le m l.placement ≡ false = go (nat_le m l.placement) refl in
        let above = leb-false m l.placement late in
        let most = is.is_greatest j k lt look in
        omega (arith, above, most)
      where
        go : (b : Bool) → nat_le m l.placement ≡ b → nat_le m l.placement ≡ false
        go false e = e
        go true e = absurd (cc)

    pub none_seen : last_before seen s.pager (length s.pager) ≡ None → (q : ℕ) → Decides (nat_le 0 q) (MayBeLast s n page q)
    none_seen none q = (λ e m r above at places. past m r places (last_none seen s.pager (length s.pager) none m r at (slice_get_within s.pager m r at)), λ last. le-leb 0 q (omega arith))

    pub from_seen : (k : ℕ) → last_before seen s.pager (length s.pager) ≡ Some k → (q : ℕ) → Decides (nat_le k q) (MayBeLast s n page q)
    from_seen k at q = (above, below)
      where
        last : IsLastAt seen s.pager (length s.pager) k
        last = last_some seen s.pager (length s.pager) k at

        above : nat_le k q ≡ true → MayBeLast s n page q
        above e m r behind there places =
            let from = leb-true k q e in
            past m r places (last.is_last m r there (omega (arith, from, behind)) (slice_get_within s.pager m r there))

        below : MayBeLast s n page q → nat_le k q ≡ true
        below may = go (cases_lt q k)
          where
            go : (q < k) ⊎ (k ≤ q) → nat_le k q ≡ true
            go (inr le) = le-leb k q le
            go (inl lt) =
                let parts = and_parts (is_placement_of page last.by) (nat_le k l.placement) last.passes_test in
                let seen_it = leb-true k l.placement parts.1 in
                let follows = may k last.by lt last.stands parts.0 l.place l.placement is.is_before is.is_look in
                absurd (omega (arith, seen_it, follows))

-- ---- what the pager knows

module _ (s : Recorded) (n : ℕ) where
  abbrev knows : ℕ → PagerRec → Bool
  knows m = knows_behind n

  unknown : (k : ℕ) → knows_behind n (Fault k) ≡ false → k ≤ n
  unknown k e = ltb-false n k e

  none_known : first_before knows s.pager (length s.pager) ≡ None → (q : ℕ) → MayPrecede s q n
  none_known none q m k lt at = unknown k (first_none knows s.pager (length s.pager) none m (Fault k) at (slice_get_within s.pager m (Fault k) at))

  before_known : (j : ℕ) → first_before knows s.pager (length s.pager) ≡ Some j → (q : ℕ) → q ≤ j → MayPrecede s q n
  before_known j first q le m k lt at =
      let f = first_some knows s.pager (length s.pager) j first in
      unknown k (f.is_first m (Fault k) at (omega (arith, lt, le)))

  -- a record that knows of such a miss names it
  names_miss : (r : PagerRec) → knows_behind n r ≡ true → (k : ℕ) × (r ≡ Fault k) × (n < k)
  names_miss (Fault k) e = (k, refl, ltb-true n k e)
  names_miss (Got d) e = absurd (cc)
  names_miss (Pull d) e = absurd (cc)
  names_miss Ready e = absurd (cc)
  names_miss (Join w) e = absurd (cc)
  names_miss (Want p) e = absurd (cc)
  names_miss (Place p got content) e = absurd (cc)
  names_miss (Zero p) e = absurd (cc)
  names_miss (Skip got) e = absurd (cc)
  names_miss All e = absurd (cc)

  known_before : (j : ℕ) → first_before knows s.pager (length s.pager) ≡ Some j → (q : ℕ) → j < q → MayPrecede s q n → ⊥
  known_before j first q lt may =
      let f = first_some knows s.pager (length s.pager) j first in
      let miss = names_miss f.by f.passes_test in
      let le = may j miss.0 lt (f.stands ∙ ap (λ (r : PagerRec). Some r) miss.1) in
      absurd (omega (arith, le, miss.2))

  pub precede_known : (j : ℕ) → first_before knows s.pager (length s.pager) ≡ Some j → (q : ℕ) → Decides (nat_le q j) (MayPrecede s q n)
  precede_known j first q = (λ e. before_known j first q (leb-true q j e), λ may. go may (cases_lt j q))
    where
      go : MayPrecede s q n → (j < q) ⊎ (q ≤ j) → nat_le q j ≡ true
      go may (inl lt) = absurd (known_before j first q lt may)
      go may (inr le) = le-leb q j le

  pub all_precede : first_before knows s.pager (length s.pager) ≡ None → (q : ℕ) → Decides true (MayPrecede s q n)
  all_precede none q = (λ e. none_known none q, λ may. refl)

-- ---- the first placement that may have given the value

module _ (s : Recorded) (n page cell value : ℕ) (behind : Option Look) (from : ℕ) (follows : (q : ℕ) → Decides (is_unseen behind q) (MayFollowChange s n page cell q)) (last : (q : ℕ) → Decides (nat_le from q) (MayBeLast s n page q)) where
  abbrev gives : ℕ → PagerRec → Bool
  gives q r = puts page cell value r && (is_unseen behind q && nat_le from q)

  passes_it : (q : ℕ) (g : MayGive s n page cell value q) → gives q g.by ≡ true
  passes_it q g = and_from (puts page cell value g.by) (is_unseen behind q && nat_le from q) g.puts_it (and_from (is_unseen behind q) (nat_le from q) ((follows q).1 g.follows) ((last q).1 g.is_last))

  pub none_gives : first_before gives s.pager (length s.pager) ≡ None → (q : ℕ) → MayGive s n page cell value q → ⊥
  none_gives none q g = let fails = first_none gives s.pager (length s.pager) none q g.by g.stands (slice_get_within s.pager q g.by g.stands) in let holds = passes_it q g in absurd (cc)

  pub first_gives : (q : ℕ) → first_before gives s.pager (length s.pager) ≡ Some q → MayPrecede s q n → IsFirstGiver s n page cell value q
  first_gives q first precedes =
      let f = first_some gives s.pager (length s.pager) q first in
      let parts = and_parts (puts page cell value f.by) (is_unseen behind q && nat_le from q) f.passes_test in
      let places = and_parts (is_unseen behind q) (nat_le from q) parts.1 in
      record {
        gives = record { by = f.by; stands = f.stands; puts_it = parts.0; follows = (follows q).0 places.0; precedes = precedes; is_last = (last q).0 places.1 };
        is_first = λ m lt g. let fails = f.is_first m g.by g.stands lt in let holds = passes_it m g in absurd (cc);
      }

  -- where the first that would comes too late, so do all
  pub too_late : (q : ℕ) → first_before gives s.pager (length s.pager) ≡ Some q → (MayPrecede s q n → ⊥) → (k : ℕ) → MayGive s n page cell value k → ⊥
  too_late q first late k g = go (cases_lt k q)
    where
      go : (k < q) ⊎ (q ≤ k) → ⊥
      go (inl below) =
          let fails = (first_some gives s.pager (length s.pager) q first).is_first k g.by g.stands below in
          let holds = passes_it k g in
          absurd (cc)
      go (inr le) = late (λ m j lt at. g.precedes m j (omega (arith, lt, le)) at)

-- ---- a read

-- what gives a read its value gives it to its cell
same_read : (s : Recorded) (n vcpu page cell value q : ℕ) → IsGiver s n q → slice_get s.guest n ≡ Some (Read vcpu page cell value) → IsFirstGiver s n page cell value q
same_read s n vcpu page cell value q g reads =
    let both : Some (Read g.vcpu g.page g.cell g.value) ≡ Some (Read vcpu page cell value) = sym g.reads ∙ reads in
    let own : g.page ≡ page = cc in
    let at : g.cell ≡ cell = cc in
    let has : g.value ≡ value = cc in
    let gives = subst (λ p. IsFirstGiver s n p g.cell g.value q) own g.first in
    let there = subst (λ c. IsFirstGiver s n page c g.value q) at gives in
    subst (λ x. IsFirstGiver s n page cell x q) has there

-- no other record may have given the read its value
pub one_giver : (s : Recorded) (n p q : ℕ) → IsGiver s n p → IsGiver s n q → p ≡ q
one_giver s n p q f g = go (cases_lt p q) (cases_lt q p)
  where
    again : IsFirstGiver s n f.page f.cell f.value q
    again = same_read s n f.vcpu f.page f.cell f.value q g f.reads

    go : (p < q) ⊎ (q ≤ p) → (q < p) ⊎ (p ≤ q) → p ≡ q
    go (inl lt) _ = absurd (again.is_first p lt f.first.gives)
    go (inr le) (inl lt) = absurd (f.first.is_first q lt again.gives)
    go (inr le) (inr ge) = omega (arith, le, ge)

-- the first that may have given it
pub is_giver : (s : Recorded) (n vcpu page cell value : ℕ) (giver : Option ℕ) → slice_get s.guest n ≡ Some (Read vcpu page cell value) → MatchOption giver ((q : ℕ) → MayGive s n page cell value q → ⊥) (IsFirstGiver s n page cell value) → MatchOption giver ((q : ℕ) → IsGiver s n q → ⊥) (IsGiver s n)
is_giver s n vcpu page cell value (Some q) reads first = record { vcpu = vcpu; page = page; cell = cell; value = value; reads = reads; first = first }
is_giver s n vcpu page cell value None reads none = λ q g. none q (same_read s n vcpu page cell value q g reads).gives
