-- The page that is pushed is the one that bubbling chooses.
use Rattle.active_push.specs.SourcePart.{goes_before, nearer, nearest}
use Rattle.bubbling.specs.Bubbling.{GoesBefore, IsNextPushed, distance}
use Rattle.migration_types.specs.PageSets.{Pages}
use Rattle.active_push.specs.Choice.{IsChoice}
use Rattle.std.proofs.Common.{Bool, List, None, Option, Some, [], ◌∷◌, ap, arith, cond, false, inl, inr, refl, subst, suc, sym, true, zero, ℕ, ◌&&◌, ◌<◌, ◌||◌, ◌∙◌, ◌≡◌, ◌≢◌, ◌≤◌, ◌⊎◌}
use Rattle.std.proofs.lemmas.Bool.{and_from, cases_eq, cases_lt, cases_order, eq-eqb, eqb-true, lt-ltb, ltb-true}
use Rattle.std.specs.List.{range_with_len}
use Rattle.std.specs.Prelude.{nat_lt, ◌+◌, ◌==◌}

-- the page that is chosen is of the set
pub nearest_in : (pivot : ℕ) (set : Pages) (xs : List ℕ) (q : ℕ) → nearest pivot set xs ≡ Some q → set q ≡ true
nearest_in pivot set [] q e = absurd (cc)
nearest_in pivot set (p ∷ ps) q e = go (set p) refl e (λ r f. nearest_in pivot set ps r f)
  where
    at : (b : Bool) (other : ℕ) → set p ≡ true → set other ≡ true → cond b p other ≡ q → set q ≡ true
    at true other here there e = subst (λ r. set r ≡ true) e here
    at false other here there e = subst (λ r. set r ≡ true) e there

    by : (found : Option ℕ) → nearest pivot set ps ≡ found → set p ≡ true → nearer pivot p found ≡ q → ((r : ℕ) → nearest pivot set ps ≡ Some r → set r ≡ true) → set q ≡ true
    by None is here e rec = subst (λ r. set r ≡ true) e here
    by (Some other) is here e rec = at (goes_before pivot p other) other here (rec other is) e

    go : (b : Bool) → set p ≡ b → cond b (Some (nearer pivot p (nearest pivot set ps))) (nearest pivot set ps) ≡ Some q → ((r : ℕ) → nearest pivot set ps ≡ Some r → set r ≡ true) → set q ≡ true
    go true is e rec = by (nearest pivot set ps) refl is (let f : nearer pivot p (nearest pivot set ps) ≡ q = cc in f) rec
    go false is e rec = rec q e

test_before : (pivot p q : ℕ) → goes_before pivot p q ≡ true → GoesBefore pivot p q
test_before pivot p q e = go (nat_lt (distance pivot p) (distance pivot q)) (distance pivot p == distance pivot q) (nat_lt q p) refl refl refl e
  where
    go : (x y z : Bool) → nat_lt (distance pivot p) (distance pivot q) ≡ x → (distance pivot p == distance pivot q) ≡ y → nat_lt q p ≡ z → (x || (y && z)) ≡ true → GoesBefore pivot p q
    go true y z a b c e = inl (ltb-true (distance pivot p) (distance pivot q) a)
    go false true true a b c e = inr (eqb-true (distance pivot p) (distance pivot q) b, ltb-true q p c)
    go false true false a b c e = absurd (cc)
    go false false z a b c e = absurd (cc)

or_left : (x y : Bool) → x ≡ true → (x || y) ≡ true
or_left true y e = refl
or_left false y e = absurd (cc)

or_right : (x y : Bool) → y ≡ true → (x || y) ≡ true
or_right true y e = refl
or_right false y e = e

before_tests : (pivot p q : ℕ) → GoesBefore pivot p q → goes_before pivot p q ≡ true
before_tests pivot p q (inl lt) = or_left _ _ (lt-ltb (distance pivot p) (distance pivot q) lt)
before_tests pivot p q (inr h) = or_right (nat_lt (distance pivot p) (distance pivot q)) _ (and_from _ _ (eq-eqb (distance pivot p) (distance pivot q) h.0) (lt-ltb q p h.1))

before_some : (pivot p q r : ℕ) → GoesBefore pivot p q → GoesBefore pivot q r → GoesBefore pivot p r
before_some pivot p q r (inl a) (inl b) = inl (omega (arith, a, b))
before_some pivot p q r (inl a) (inr b) = inl (omega (arith, a, b.0))
before_some pivot p q r (inr a) (inl b) = inl (omega (arith, a.0, b))
before_some pivot p q r (inr a) (inr b) = inr (omega (arith, a.0, b.0), omega (arith, a.1, b.1))

-- of two pages one goes before the other
one_before : (pivot p q : ℕ) → (p ≢ q) → goes_before pivot p q ≡ false → GoesBefore pivot q p
one_before pivot p q other e = go (cases_order (distance pivot p) (distance pivot q)) (cases_order p q)
  where
    not_that : {A : Type 0} → GoesBefore pivot p q → A
    not_that h = absurd (let f = before_tests pivot p q h in cc)

    go : (distance pivot p ≡ distance pivot q) ⊎ ((distance pivot p < distance pivot q) ⊎ (distance pivot q < distance pivot p)) → (p ≡ q) ⊎ ((p < q) ⊎ (q < p)) → GoesBefore pivot q p
    go (inr (inr lt)) c = inl lt
    go (inr (inl lt)) c = not_that (inl lt)
    go (inl same) (inl e) = absurd (other e)
    go (inl same) (inr (inl lt)) = inr (sym same, lt)
    go (inl same) (inr (inr lt)) = not_that (inr (same, lt))

-- it goes before each page of the set that stands from a on, of which there are n
abbrev IsFirst : ℕ → Pages → ℕ → ℕ → ℕ → Type 0
IsFirst pivot set a n q = (other : ℕ) → a ≤ other → other < a + n → set other ≡ true → other ≢ q → GoesBefore pivot q other

nearest_none : (pivot : ℕ) (set : Pages) (n a : ℕ) → nearest pivot set (range_with_len a n) ≡ None → (p : ℕ) → a ≤ p → p < a + n → set p ≡ false
nearest_none pivot set zero a e p low high = absurd (omega arith)
nearest_none pivot set (suc n) a e p low high = go (set a) refl e (λ f lo hi. nearest_none pivot set n (a + 1) f p lo hi) (cases_lt a p)
  where
    go : (b : Bool) → set a ≡ b → cond b (Some (nearer pivot a (nearest pivot set (range_with_len (a + 1) n)))) (nearest pivot set (range_with_len (a + 1) n)) ≡ None → (nearest pivot set (range_with_len (a + 1) n) ≡ None → a + 1 ≤ p → p < a + 1 + n → set p ≡ false) → (a < p) ⊎ (p ≤ a) → set p ≡ false
    go true is e rec c = absurd (cc)
    go false is e rec (inl lt) = rec e (omega arith) (omega arith)
    go false is e rec (inr le) = let same : a ≡ p = omega arith in subst (λ k. set k ≡ false) same is

nearest_first : (pivot : ℕ) (set : Pages) (n a q : ℕ) → nearest pivot set (range_with_len a n) ≡ Some q → IsFirst pivot set a n q
nearest_first pivot set zero a q e = absurd (cc)
nearest_first pivot set (suc n) a q e = go (set a) refl e (λ r f. nearest_first pivot set n (a + 1) r f)
  where
    rest : List ℕ
    rest = range_with_len (a + 1) n

    -- what goes before the others, where a is in the set or not
    more : (r : ℕ) → (set a ≡ true → a ≢ r → GoesBefore pivot r a) → IsFirst pivot set (a + 1) n r → IsFirst pivot set a (suc n) r
    more r here ahead p low high is other = at (cases_lt a p)
      where
        at : (a < p) ⊎ (p ≤ a) → GoesBefore pivot r p
        at (inl lt) = ahead p (omega arith) (omega arith) is other
        at (inr le) =
            let same : p ≡ a = omega arith in
            subst (λ k. GoesBefore pivot r k) (sym same) (here (subst (λ k. set k ≡ true) same is) (λ e. other (same ∙ e)))

    choose : (r : ℕ) (b : Bool) → goes_before pivot a r ≡ b → IsFirst pivot set (a + 1) n r → cond b a r ≡ q → IsFirst pivot set a (suc n) q
    choose r true is first e =
        let before = test_before pivot a r is in
        let mine : IsFirst pivot set (a + 1) n a = λ p low high member other. chained p (cases_eq p r) before (first p low high member) in
        subst (λ k. IsFirst pivot set a (suc n) k) e (more a (λ member other. absurd (other refl)) mine)
      where
        chained : (p : ℕ) → (p ≡ r) ⊎ (p ≡ r → ⊥) → GoesBefore pivot a r → (p ≢ r → GoesBefore pivot r p) → GoesBefore pivot a p
        chained p (inl same) before next = subst (λ k. GoesBefore pivot a k) (sym same) before
        chained p (inr other) before next = before_some pivot a r p before (next other)
    choose r false is first e = subst (λ k. IsFirst pivot set a (suc n) k) e (more r (λ member other. one_before pivot a r other is) first)

    by : (found : Option ℕ) → nearest pivot set (range_with_len (a + 1) n) ≡ found → nearer pivot a found ≡ q → ((r : ℕ) → nearest pivot set (range_with_len (a + 1) n) ≡ Some r → IsFirst pivot set (a + 1) n r) → IsFirst pivot set a (suc n) q
    by None is e rec =
        let alone : IsFirst pivot set (a + 1) n a = λ p low high member other. absurd (let f = nearest_none pivot set n (a + 1) is p low high in cc) in
        subst (λ k. IsFirst pivot set a (suc n) k) e (more a (λ member other. absurd (other refl)) alone)
    by (Some r) is e rec = choose r (goes_before pivot a r) refl (rec r is) e

    go : (b : Bool) → set a ≡ b → cond b (Some (nearer pivot a (nearest pivot set (range_with_len (a + 1) n)))) (nearest pivot set (range_with_len (a + 1) n)) ≡ Some q → ((r : ℕ) → nearest pivot set (range_with_len (a + 1) n) ≡ Some r → IsFirst pivot set (a + 1) n r) → IsFirst pivot set a (suc n) q
    go true is e rec = by (nearest pivot set (range_with_len (a + 1) n)) refl (let f : nearer pivot a (nearest pivot set (range_with_len (a + 1) n)) ≡ q = cc in f) rec
    go false is e rec = more q (λ member other. absurd (let f = is in cc)) (rec q e)

-- the chosen page, where each page of the set is a page of the machine
pub chosen_is_next : (pages pivot : ℕ) (set : Pages) → ((p : ℕ) → set p ≡ true → p < pages) → (q : ℕ) → nearest pivot set (range_with_len 0 pages) ≡ Some q → IsNextPushed set pivot q
chosen_is_next pages pivot set within q e = record {
  is_unsent = nearest_in pivot set (range_with_len 0 pages) q e;
  is_first = λ p member other. nearest_first pivot set pages 0 q e p (omega arith) (omega (arith, within p member)) member other;
}

-- and there is none only where the set is empty
pub none_is_left : (pages pivot : ℕ) (set : Pages) → ((p : ℕ) → set p ≡ true → p < pages) → nearest pivot set (range_with_len 0 pages) ≡ None → (p : ℕ) → set p ≡ false
none_is_left pages pivot set within e p = go (set p) refl
  where
    go : (b : Bool) → set p ≡ b → b ≡ false
    go true is = sym is ∙ nearest_none pivot set pages 0 e p (omega arith) (omega (arith, within p is))
    go false is = refl

-- there is one next page at most
pub next_is_one : (set : Pages) (pivot p q : ℕ) → IsNextPushed set pivot p → IsNextPushed set pivot q → p ≡ q
next_is_one set pivot p q a b = go (cases_eq p q)
  where
    twice : GoesBefore pivot p q → GoesBefore pivot q p → ⊥
    twice (inl x) (inl y) = absurd (omega (arith, x, y))
    twice (inl x) (inr y) = absurd (omega (arith, x, y.0))
    twice (inr x) (inl y) = absurd (omega (arith, x.0, y))
    twice (inr x) (inr y) = absurd (omega (arith, x.1, y.1))

    go : (p ≡ q) ⊎ (p ≡ q → ⊥) → p ≡ q
    go (inl e) = e
    go (inr other) = absurd (twice (a.is_first q b.is_unsent (λ e. other (sym e))) (b.is_first p a.is_unsent other))

pub choice_is : (pages pivot : ℕ) (set : Pages) → ((p : ℕ) → set p ≡ true → p < pages) → IsChoice pages pivot set
choice_is pages pivot set within = record {
  is_next = chosen_is_next pages pivot set within;
  is_the = λ q next. go q next (nearest pivot set (range_with_len 0 pages)) refl;
  is_none = none_is_left pages pivot set within;
}
  where
    go : (q : ℕ) → IsNextPushed set pivot q → (o : Option ℕ) → nearest pivot set (range_with_len 0 pages) ≡ o → o ≡ Some q
    go q next None is = absurd (let f = none_is_left pages pivot set within is q in let g = next.is_unsent in cc)
    go q next (Some p) is = ap Some (next_is_one set pivot p q (chosen_is_next pages pivot set within p is) next)
