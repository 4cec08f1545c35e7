-- What holds of the entries of every queue.
use Rattle.std.proofs.Common.{◌≡◌, ℕ, ◌+◌, ◌<◌, ◌≤◌, ◌⊎◌, inl, inr, Bool, true, false, cond, not, ◌||◌, List, [], ◌∷◌, ◌++◌, map, length, refl, sym, ap, ◌∙◌, subst, arith, length-append}
use Rattle.std.specs.Prelude.{◌==◌}
use Rattle.std.specs.List.{AllByRecursion, IsDistinct, flat_map, list_any, count_by}
use Rattle.std.specs.Cmp.{nat_eq_equiv}
use Rattle.std.proofs.lemmas.Bool.{cases_Bool, eqb-true, eq-eqb, or_parts, or_cases}
use Rattle.std.proofs.lemmas.List.{map-append}
use Rattle.std.proofs.lemmas.List.Concat.{flat_map-append}
use Rattle.std.proofs.lemmas.List.Sums.{sum_by-cons, sum_by-append}
use Rattle.std.proofs.lemmas.Map.Keys.{IsDistinct-head, IsDistinct-tail, IsDistinct-cons, IsDistinct-push}
use Rattle.std.proofs.lemmas.Map.Steps.{length-le_from_distinct_below}
use Rattle.fault_queue.specs.Waiting.{Waiting, is_asked, is_waiting, joined, with_waiter, entry, asked, without, IsEntry, IsQueue}

abbrev pages : List Waiting → List ℕ
pages es = map (λ e. e.page) es

abbrev waiters : List Waiting → List ℕ
waiters es = flat_map (λ e. e.vcpus) es

abbrev times : ℕ → List ℕ → ℕ
times vcpu xs = count_by (λ v. v == vcpu) xs

times-cons : (vcpu x : ℕ) (xs : List ℕ) → times vcpu (x ∷ xs) ≡ cond (x == vcpu) 1 0 + times vcpu xs
times-cons vcpu x xs = sum_by-cons (λ v. cond (v == vcpu) 1 0) x xs

times-append : (vcpu : ℕ) (xs ys : List ℕ) → times vcpu (xs ++ ys) ≡ times vcpu xs + times vcpu ys
times-append vcpu xs ys = sum_by-append (λ v. cond (v == vcpu) 1 0) xs ys

-- one that does not wait is counted nowhere
times_none : (vcpu : ℕ) (xs : List ℕ) → list_any (λ v. v == vcpu) xs ≡ false → times vcpu xs ≡ 0
times_none vcpu [] h = refl
times_none vcpu (x ∷ xs) h =
    let p = or_parts (x == vcpu) (list_any (λ v. v == vcpu) xs) h in
    times-cons vcpu x xs ∙ (λ i. cond (p.0 i) 1 0 + times_none vcpu xs p.1 i)

none_waiting : (vcpu : ℕ) (es : List Waiting) → is_waiting vcpu es ≡ false → times vcpu (waiters es) ≡ 0
none_waiting vcpu [] h = refl
none_waiting vcpu (e ∷ es) h =
    let p = or_parts (list_any (λ v. v == vcpu) e.vcpus) (is_waiting vcpu es) h in
    times-append vcpu e.vcpus (waiters es) ∙ (λ i. times_none vcpu e.vcpus p.0 i + none_waiting vcpu es p.1 i)

-- numbers that are each counted once at most are distinct
zero_none : (x : ℕ) (xs : List ℕ) → times x xs ≡ 0 → AllByRecursion (λ y. (x == y) ≡ false) xs
zero_none x [] h = tt
zero_none x (y ∷ ys) h = (apart (cases_Bool (x == y)), zero_none x ys (omega (arith, times-cons x y ys, h)))
  where
    apart : ((x == y) ≡ true) ⊎ ((x == y) ≡ false) → (x == y) ≡ false
    apart (inl t) =
        let back : (y == x) ≡ true = eq-eqb y x (sym (eqb-true x y t)) in
        let counted : times x (y ∷ ys) ≡ 1 + times x ys = times-cons x y ys ∙ ap (λ b. cond b 1 0 + times x ys) back in
        absurd (omega (arith, counted, h))
    apart (inr f) = f

distinct : (xs : List ℕ) → ((v : ℕ) → times v xs ≤ 1) → IsDistinct (λ a b. a == b) xs
unfolding IsDistinct
distinct [] h = tt
distinct (x ∷ xs) h =
    let here : times x (x ∷ xs) ≡ 1 + times x xs = times-cons x x xs ∙ ap (λ b. cond b 1 0 + times x xs) (eq-eqb x x refl) in
    (zero_none x xs (omega (arith, here, h x)), distinct xs (λ v. omega (arith, times-cons v x xs, h v)))

-- so there are at most 256 entries
below : (q : ℕ) (xs : List ℕ) → AllByRecursion (λ v. v < 256) xs → list_any (λ v. q == v) xs ≡ true → q < 256
below q [] all h = absurd (cc)
below q (x ∷ xs) all h = go (below q xs all.1) (or_cases (q == x) (list_any (λ v. q == v) xs) h)
  where
    go : (list_any (λ v. q == v) xs ≡ true → q < 256) → ((q == x) ≡ true) ⊎ (list_any (λ v. q == v) xs ≡ true) → q < 256
    go rest (inl t) = subst (λ n. n < 256) (sym (eqb-true q x t)) all.0
    go rest (inr t) = rest t

all-append : (P : ℕ → Type 0) (xs ys : List ℕ) → AllByRecursion P xs → AllByRecursion P ys → AllByRecursion P (xs ++ ys)
all-append P [] ys p q = q
all-append P (x ∷ xs) ys p q = (p.0, all-append P xs ys p.1 q)

all_numbers : (es : List Waiting) → AllByRecursion IsEntry es → AllByRecursion (λ v. v < 256) (waiters es)
all_numbers [] h = tt
all_numbers (e ∷ es) h = all-append (λ v. v < 256) e.vcpus (waiters es) h.0.numbers (all_numbers es h.1)

fewer : (es : List Waiting) → AllByRecursion IsEntry es → length es ≤ length (waiters es)
fewer [] h = omega arith
fewer (e ∷ es) h = omega (arith, length-append e.vcpus (waiters es), fewer es h.1, h.0.waited_for)

pub few : (es : List Waiting) → IsQueue es → length es ≤ 256
few es h =
    let most : length (waiters es) ≤ 256 = length-le_from_distinct_below (waiters es) 256 (distinct (waiters es) h.once) (λ q. below q (waiters es) (all_numbers es h.each)) in
    omega (arith, most, fewer es h.each)

-- an entry taken out
all_without : (P : Waiting → Type 0) (page : ℕ) (es : List Waiting) → AllByRecursion P es → AllByRecursion P (without page es)
all_without P page [] h = tt
all_without P page (e ∷ es) h = go (all_without P page es h.1) (not (page == e.page))
  where
    go : AllByRecursion P (without page es) → (b : Bool) → AllByRecursion P (cond b (e ∷ without page es) (without page es))
    go rest true = (h.0, rest)
    go rest false = rest

apart_without : (x page : ℕ) (es : List Waiting) → AllByRecursion (λ y. (x == y) ≡ false) (pages es) → AllByRecursion (λ y. (x == y) ≡ false) (pages (without page es))
apart_without x page [] h = tt
apart_without x page (e ∷ es) h = go (apart_without x page es h.1) (not (page == e.page))
  where
    go : AllByRecursion (λ y. (x == y) ≡ false) (pages (without page es)) → (b : Bool) → AllByRecursion (λ y. (x == y) ≡ false) (pages (cond b (e ∷ without page es) (without page es)))
    go rest true = (h.0, rest)
    go rest false = rest

distinct_without : (page : ℕ) (es : List Waiting) → IsDistinct (λ a b. a == b) (pages es) → IsDistinct (λ a b. a == b) (pages (without page es))
distinct_without page [] h = h
distinct_without page (e ∷ es) h = go (distinct_without page es (IsDistinct-tail (λ a b. a == b) e.page (pages es) h)) (not (page == e.page))
  where
    go : IsDistinct (λ a b. a == b) (pages (without page es)) → (b : Bool) → IsDistinct (λ a b. a == b) (pages (cond b (e ∷ without page es) (without page es)))
    go rest true = IsDistinct-cons (λ a b. a == b) e.page (pages (without page es)) (apart_without e.page page es (IsDistinct-head (λ a b. a == b) e.page (pages es) h)) rest
    go rest false = rest

times_without : (vcpu page : ℕ) (es : List Waiting) → times vcpu (waiters (without page es)) ≤ times vcpu (waiters es)
times_without vcpu page [] = omega arith
times_without vcpu page (e ∷ es) = go (times_without vcpu page es) (not (page == e.page))
  where
    go : times vcpu (waiters (without page es)) ≤ times vcpu (waiters es) → (b : Bool) → times vcpu (waiters (cond b (e ∷ without page es) (without page es))) ≤ times vcpu (waiters (e ∷ es))
    go rest true = omega (arith, times-append vcpu e.vcpus (waiters es), times-append vcpu e.vcpus (waiters (without page es)), rest)
    go rest false = omega (arith, times-append vcpu e.vcpus (waiters es), rest)

pub order_without : (page : ℕ) (es : List Waiting) → IsQueue es → IsQueue (without page es)
order_without page es h = record {
  pages = distinct_without page es h.pages;
  once = λ v. omega (arith, times_without v page es, h.once v);
  each = all_without IsEntry page es h.each;
}

-- one waiter more in an entry
pages_joined : (page vcpu : ℕ) (es : List Waiting) → pages (joined page vcpu es) ≡ pages es
pages_joined page vcpu [] = refl
pages_joined page vcpu (e ∷ es) = go (pages_joined page vcpu es) (page == e.page)
  where
    go : pages (joined page vcpu es) ≡ pages es → (b : Bool) → pages (cond b (with_waiter vcpu e) e ∷ joined page vcpu es) ≡ pages (e ∷ es)
    go others true = ap (λ rest. e.page ∷ rest) others
    go others false = ap (λ rest. e.page ∷ rest) others

all_joined : (page vcpu : ℕ) (es : List Waiting) → vcpu < 256 → AllByRecursion IsEntry es → AllByRecursion IsEntry (joined page vcpu es)
all_joined page vcpu [] fits h = tt
all_joined page vcpu (e ∷ es) fits h = go (all_joined page vcpu es fits h.1) (page == e.page)
  where
    more : IsEntry (with_waiter vcpu e)
    more = record { waited_for = omega (arith, length-append e.vcpus (vcpu ∷ []), h.0.waited_for); numbers = all-append (λ v. v < 256) e.vcpus (vcpu ∷ []) h.0.numbers (fits, tt) }

    go : AllByRecursion IsEntry (joined page vcpu es) → (b : Bool) → AllByRecursion IsEntry (cond b (with_waiter vcpu e) e ∷ joined page vcpu es)
    go rest true = (more, rest)
    go rest false = (h.0, rest)

pub absent_joined : (page vcpu : ℕ) (es : List Waiting) → AllByRecursion (λ y. (page == y) ≡ false) (pages es) → joined page vcpu es ≡ es
absent_joined page vcpu [] h = refl
absent_joined page vcpu (e ∷ es) h =
    ap (λ b. cond b (with_waiter vcpu e) e ∷ joined page vcpu es) h.0
    ∙ ap (λ rest. e ∷ rest) (absent_joined page vcpu es h.1)

times_joined : (v page vcpu : ℕ) (es : List Waiting) → IsDistinct (λ a b. a == b) (pages es) → times v (waiters (joined page vcpu es)) ≤ times v (waiters es) + times v (vcpu ∷ [])
times_joined v page vcpu [] d = omega arith
times_joined v page vcpu (e ∷ es) d = go (times_joined v page vcpu es (IsDistinct-tail (λ a b. a == b) e.page (pages es) d)) (page == e.page) refl
  where
    go : times v (waiters (joined page vcpu es)) ≤ times v (waiters es) + times v (vcpu ∷ []) → (b : Bool) → (page == e.page) ≡ b → times v (waiters (cond b (with_waiter vcpu e) e ∷ joined page vcpu es)) ≤ times v (waiters (e ∷ es)) + times v (vcpu ∷ [])
    go rest true is =
        let absent = subst (λ p. AllByRecursion (λ y. (p == y) ≡ false) (pages es)) (sym (eqb-true page e.page is)) (IsDistinct-head (λ a b. a == b) e.page (pages es) d) in
        let same : times v (waiters (joined page vcpu es)) ≡ times v (waiters es) = ap (λ (rest : List Waiting). times v (waiters rest)) (absent_joined page vcpu es absent) in
        omega (arith, same, times-append v e.vcpus (waiters es), times-append v e.vcpus (vcpu ∷ []), times-append v (e.vcpus ++ vcpu ∷ []) (waiters (joined page vcpu es)))
    go rest false is = omega (arith, times-append v e.vcpus (waiters es), times-append v e.vcpus (waiters (joined page vcpu es)), rest)

-- where one waits nowhere, one more of it is one
once_more : (v vcpu : ℕ) (es : List Waiting) → IsQueue es → is_waiting vcpu es ≡ false → times v (waiters es) + times v (vcpu ∷ []) ≤ 1
once_more v vcpu es h away = go (cases_Bool (vcpu == v))
  where
    go : ((vcpu == v) ≡ true) ⊎ ((vcpu == v) ≡ false) → times v (waiters es) + times v (vcpu ∷ []) ≤ 1
    go (inl t) =
        let none : times v (waiters es) ≡ 0 = subst (λ n. times n (waiters es) ≡ 0) (eqb-true vcpu v t) (none_waiting vcpu es away) in
        let last : times v (vcpu ∷ []) ≡ 1 = ap (λ b. 0 + cond b 1 0) t in
        omega (arith, none, last)
    go (inr f) =
        let last : times v (vcpu ∷ []) ≡ 0 = ap (λ b. 0 + cond b 1 0) f in
        omega (arith, last, h.once v)

order_joined : (page vcpu : ℕ) (es : List Waiting) → vcpu < 256 → is_waiting vcpu es ≡ false → IsQueue es → IsQueue (joined page vcpu es)
order_joined page vcpu es fits away h = record {
  pages = subst (IsDistinct (λ a b. a == b)) (sym (pages_joined page vcpu es)) h.pages;
  once = λ v. omega (arith, times_joined v page vcpu es h.pages, once_more v vcpu es h away);
  each = all_joined page vcpu es fits h.each;
}

-- a new entry
asked_pages : (page : ℕ) (es : List Waiting) → list_any (λ k. page == k) (pages es) ≡ is_asked page es
asked_pages page [] = refl
asked_pages page (e ∷ es) = ap (λ b. (page == e.page) || b) (asked_pages page es)

all_push : (es : List Waiting) (e : Waiting) → AllByRecursion IsEntry es → IsEntry e → AllByRecursion IsEntry (es ++ e ∷ [])
all_push [] e h last = (last, tt)
all_push (x ∷ es) e h last = (h.0, all_push es e h.1 last)

order_new : (page vcpu : ℕ) (es : List Waiting) → vcpu < 256 → is_waiting vcpu es ≡ false → is_asked page es ≡ false → IsQueue es → IsQueue (es ++ entry page vcpu ∷ [])
order_new page vcpu es fits away new h = record {
  pages = subst (IsDistinct (λ a b. a == b)) (sym (map-append (λ e. e.page) es (entry page vcpu ∷ []))) (IsDistinct-push nat_eq_equiv (pages es) page h.pages (asked_pages page es ∙ new));
  once = λ v. omega (arith, ap (times v) (flat_map-append (λ (e : Waiting). e.vcpus) es (entry page vcpu ∷ [])), times-append v (waiters es) (vcpu ∷ []), once_more v vcpu es h away);
  each = all_push es (entry page vcpu) h.each (record { waited_for = omega arith; numbers = (fits, tt) });
}

pub order_asked : (page vcpu : ℕ) (es : List Waiting) → vcpu < 256 → is_waiting vcpu es ≡ false → IsQueue es → IsQueue (asked page vcpu es)
order_asked page vcpu es fits away h = go (is_asked page es) refl
  where
    go : (b : Bool) → is_asked page es ≡ b → IsQueue (cond b (joined page vcpu es) (es ++ entry page vcpu ∷ []))
    go true is = order_joined page vcpu es fits away h
    go false is = order_new page vcpu es fits away is h
