-- Each message is delivered once, in time.
use Rattle.std.proofs.Common.{◌≡◌, ℕ, zero, suc, ◌+◌, ◌*◌, ◌<◌, ◌≤◌, ◌⊎◌, inl, inr, Bool, true, false, cond, ◌==◌, nat_lt, List, [], ◌∷◌, ◌++◌, get_or, filter, All, AllPairs, refl, sym, ap, subst, ◌∙◌, arith, eqb-true, eq-eqb, ne_eqb, lt-ltb, le-ltb}
use Rattle.std.specs.List.Sorted.{IsPermutation}
use Rattle.std.proofs.lemmas.Bool.{cases_lt}
use Rattle.std.proofs.lemmas.List.Elements.{All-append, All-weaker, filter_passes}
use Rattle.std.proofs.lemmas.List.Kept.{AllPairs-cons}
use Rattle.std.proofs.lemmas.List.Sorted.{IsPermutation-refl, IsPermutation-sym, IsPermutation-cons, IsPermutation-trans, IsPermutation-middle, IsPermutation-append_left, IsPermutation-append_right}
use Rattle.recorder_files.specs.declared.delivering.Message.{Message}
use Rattle.recorder_files.specs.declared.delivering.Message.TheVariants.{Down, Up}
use Rattle.recorder_files.specs.Deliveries.{of_pager, is_taken_by, is_sent_by, delivered, is_of_first, NoLater}
use Rattle.recorder_files.specs.inner.Moments.{moment_of}

-- ---- once

module _ {X : Type 0} (x : X) (all before taken sent : List X) (h : IsPermutation all (before ++ (taken ++ sent))) where
  -- what stands in front of any part
  in_front : IsPermutation (x ∷ all) (x ∷ (before ++ (taken ++ sent)))
  in_front = IsPermutation-cons x all (before ++ (taken ++ sent)) h

  behind_before : IsPermutation (x ∷ all) (before ++ x ∷ (taken ++ sent))
  behind_before = IsPermutation-trans (x ∷ all) (x ∷ (before ++ (taken ++ sent))) (before ++ x ∷ (taken ++ sent)) in_front (IsPermutation-sym (before ++ x ∷ (taken ++ sent)) (x ∷ (before ++ (taken ++ sent))) (IsPermutation-middle before x (taken ++ sent)))

  behind_taken : IsPermutation (x ∷ all) (before ++ (taken ++ x ∷ sent))
  behind_taken = IsPermutation-trans (x ∷ all) (before ++ x ∷ (taken ++ sent)) (before ++ (taken ++ x ∷ sent)) behind_before (IsPermutation-append_right before (x ∷ (taken ++ sent)) (taken ++ x ∷ sent) (IsPermutation-sym (taken ++ x ∷ sent) (x ∷ (taken ++ sent)) (IsPermutation-middle taken x sent)))

  -- an element that is of a part, or of none
  of_before : (a b c d : Bool) → a ≡ true → b ≡ true → c ≡ false → d ≡ false → IsPermutation (cond a (x ∷ all) all) (cond b (x ∷ before) before ++ (cond c (x ∷ taken) taken ++ cond d (x ∷ sent) sent))
  of_before a b c d p q r s = rw (p, q, r, s) in_front

  of_taken : (a b c d : Bool) → a ≡ true → b ≡ false → c ≡ true → d ≡ false → IsPermutation (cond a (x ∷ all) all) (cond b (x ∷ before) before ++ (cond c (x ∷ taken) taken ++ cond d (x ∷ sent) sent))
  of_taken a b c d p q r s = rw (p, q, r, s) behind_before

  of_sent : (a b c d : Bool) → a ≡ true → b ≡ false → c ≡ false → d ≡ true → IsPermutation (cond a (x ∷ all) all) (cond b (x ∷ before) before ++ (cond c (x ∷ taken) taken ++ cond d (x ∷ sent) sent))
  of_sent a b c d p q r s = rw (p, q, r, s) behind_taken

  of_none : (a b c d : Bool) → a ≡ false → b ≡ false → c ≡ false → d ≡ false → IsPermutation (cond a (x ∷ all) all) (cond b (x ∷ before) before ++ (cond c (x ∷ taken) taken ++ cond d (x ∷ sent) sent))
  of_none a b c d p q r s = rw (p, q, r, s) h

-- what the first records tell of, where there is one more of them
parted : (n : ℕ) (ms : List Message) → IsPermutation (filter (is_of_first (suc n)) ms) (filter (is_of_first n) ms ++ (filter (is_taken_by n) ms ++ filter (is_sent_by n) ms))
parted n [] = IsPermutation-refl []
parted n (Down s t ∷ ms) = go (parted n ms) (cases_lt t n) (cases_lt n t)
  where
    go : IsPermutation (filter (is_of_first (suc n)) ms) (filter (is_of_first n) ms ++ (filter (is_taken_by n) ms ++ filter (is_sent_by n) ms)) → (t < n) ⊎ (n ≤ t) → (n < t) ⊎ (t ≤ n) → IsPermutation (filter (is_of_first (suc n)) (Down s t ∷ ms)) (filter (is_of_first n) (Down s t ∷ ms) ++ (filter (is_taken_by n) (Down s t ∷ ms) ++ filter (is_sent_by n) (Down s t ∷ ms)))
    go h (inl lt) other = of_before (Down s t) _ _ _ _ h (nat_lt t (suc n)) (nat_lt t n) (t == n) false (lt-ltb t (suc n) (omega arith)) (lt-ltb t n lt) (ne_eqb t n (λ e. omega arith)) refl
    go h (inr le) (inl lt) = of_none (Down s t) _ _ _ _ h (nat_lt t (suc n)) (nat_lt t n) (t == n) false (le-ltb t (suc n) (omega arith)) (le-ltb t n le) (ne_eqb t n (λ e. omega arith)) refl
    go h (inr le) (inr ge) = of_taken (Down s t) _ _ _ _ h (nat_lt t (suc n)) (nat_lt t n) (t == n) false (lt-ltb t (suc n) (omega arith)) (le-ltb t n le) (eq-eqb t n (omega arith)) refl
parted n (Up s t ∷ ms) = go (parted n ms) (cases_lt s n) (cases_lt n s)
  where
    go : IsPermutation (filter (is_of_first (suc n)) ms) (filter (is_of_first n) ms ++ (filter (is_taken_by n) ms ++ filter (is_sent_by n) ms)) → (s < n) ⊎ (n ≤ s) → (n < s) ⊎ (s ≤ n) → IsPermutation (filter (is_of_first (suc n)) (Up s t ∷ ms)) (filter (is_of_first n) (Up s t ∷ ms) ++ (filter (is_taken_by n) (Up s t ∷ ms) ++ filter (is_sent_by n) (Up s t ∷ ms)))
    go h (inl lt) other = of_before (Up s t) _ _ _ _ h (nat_lt s (suc n)) (nat_lt s n) false (s == n) (lt-ltb s (suc n) (omega arith)) (lt-ltb s n lt) refl (ne_eqb s n (λ e. omega arith))
    go h (inr le) (inl lt) = of_none (Up s t) _ _ _ _ h (nat_lt s (suc n)) (nat_lt s n) false (s == n) (le-ltb s (suc n) (omega arith)) (le-ltb s n le) refl (ne_eqb s n (λ e. omega arith))
    go h (inr le) (inr ge) = of_sent (Up s t) _ _ _ _ h (nat_lt s (suc n)) (nat_lt s n) false (s == n) (lt-ltb s (suc n) (omega arith)) (le-ltb s n le) refl (eq-eqb s n (omega arith))

none_of_first : (ms : List Message) → filter (is_of_first 0) ms ≡ []
none_of_first [] = refl
none_of_first (m ∷ ms) = ap (λ b. cond b (m ∷ filter (is_of_first 0) ms) (filter (is_of_first 0) ms)) (le-ltb (of_pager m) 0 (omega arith)) ∙ none_of_first ms

pub delivered_once : (messages : List Message) (count : ℕ) → IsPermutation (filter (is_of_first count) messages) (delivered messages count)
delivered_once messages zero = subst (λ ms. IsPermutation ms []) (sym (none_of_first messages)) (IsPermutation-refl [])
delivered_once messages (suc n) =
    let here = filter (is_taken_by n) messages ++ filter (is_sent_by n) messages in
    IsPermutation-trans (filter (is_of_first (suc n)) messages) (filter (is_of_first n) messages ++ here) (delivered messages n ++ here) (parted n messages) (IsPermutation-append_left here (filter (is_of_first n) messages) (delivered messages n) (delivered_once messages n))

-- ---- in time

no_later : (m n : Message) → moment_of m ≤ moment_of n → NoLater m n
no_later (Down sent taken) (Down other_sent other_taken) le = omega arith
no_later (Down sent taken) (Up other_sent other_taken) le = omega arith
no_later (Up sent taken) (Down other_sent other_taken) le = omega arith
no_later (Up sent taken) (Up other_sent other_taken) le = omega arith

taken_at : (n : ℕ) (m : Message) → is_taken_by n m ≡ true → moment_of m ≡ 2 * n
taken_at n (Down sent taken) e = let same : taken ≡ n = eqb-true taken n e in omega arith
taken_at n (Up sent taken) e = absurd (cc)

sent_at : (n : ℕ) (m : Message) → is_sent_by n m ≡ true → moment_of m ≡ 2 * n + 1
sent_at n (Down sent taken) e = absurd (cc)
sent_at n (Up sent taken) e = let same : sent ≡ n = eqb-true sent n e in omega arith

all_taken : (n : ℕ) (ms : List Message) → All (λ m. moment_of m ≡ 2 * n) (filter (is_taken_by n) ms)
all_taken n ms = All-weaker (λ m. is_taken_by n m ≡ true) (λ m. moment_of m ≡ 2 * n) (taken_at n) (filter (is_taken_by n) ms) (filter_passes (is_taken_by n) ms)

all_sent : (n : ℕ) (ms : List Message) → All (λ m. moment_of m ≡ 2 * n + 1) (filter (is_sent_by n) ms)
all_sent n ms = All-weaker (λ m. is_sent_by n m ≡ true) (λ m. moment_of m ≡ 2 * n + 1) (sent_at n) (filter (is_sent_by n) ms) (filter_passes (is_sent_by n) ms)

all_before : (messages : List Message) (n : ℕ) → All (λ m. moment_of m < 2 * n) (delivered messages n)
all_before messages zero = λ k d lt. absurd (omega arith)
all_before messages (suc n) = All-append (λ m. moment_of m < 2 * suc n) (delivered messages n) (filter (is_taken_by n) messages ++ filter (is_sent_by n) messages)
    (All-weaker (λ m. moment_of m < 2 * n) (λ m. moment_of m < 2 * suc n) (λ m lt. omega arith) (delivered messages n) (all_before messages n))
    (All-append (λ m. moment_of m < 2 * suc n) (filter (is_taken_by n) messages) (filter (is_sent_by n) messages)
    (All-weaker (λ m. moment_of m ≡ 2 * n) (λ m. moment_of m < 2 * suc n) (λ m e. omega arith) (filter (is_taken_by n) messages) (all_taken n messages))
    (All-weaker (λ m. moment_of m ≡ 2 * n + 1) (λ m. moment_of m < 2 * suc n) (λ m e. omega arith) (filter (is_sent_by n) messages) (all_sent n messages)))

-- messages of one moment
at_once : (k : ℕ) (ms : List Message) → All (λ m. moment_of m ≡ k) ms → AllPairs NoLater ms
at_once k ms h i j d lt within =
    let one : moment_of (get_or ms i d) ≡ k = h i d (omega arith) in
    let other : moment_of (get_or ms j d) ≡ k = h j d within in
    no_later (get_or ms i d) (get_or ms j d) (omega arith)

-- two parts, of which the second begins where the first ends
pairs_on : (k : ℕ) (ms ns : List Message) → AllPairs NoLater ms → AllPairs NoLater ns → All (λ m. moment_of m ≤ k) ms → All (λ m. k ≤ moment_of m) ns → AllPairs NoLater (ms ++ ns)
pairs_on k [] ns p q low high = q
pairs_on k (m ∷ ms) ns p q low high =
    let first : moment_of m ≤ k = low 0 m (omega arith) in
    let later : All (NoLater m) ns = λ j d lt. let up : k ≤ moment_of (get_or ns j d) = high j d lt in no_later m (get_or ns j d) (omega arith) in
    let here : All (NoLater m) ms = λ j d lt. p 0 (suc j) d (omega arith) (omega arith) in
    let rest : AllPairs NoLater ms = λ i j d lt within. p (suc i) (suc j) d (omega arith) (omega arith) in
    let rest_low : All (λ n. moment_of n ≤ k) ms = λ j d lt. low (suc j) d (omega arith) in
    AllPairs-cons NoLater m (ms ++ ns) (All-append (NoLater m) ms ns here later) (pairs_on k ms ns rest q rest_low high)

pub delivered_in_time : (messages : List Message) (count : ℕ) → AllPairs NoLater (delivered messages count)
delivered_in_time messages zero = λ i j d lt within. absurd (omega arith)
delivered_in_time messages (suc n) =
    let taken = filter (is_taken_by n) messages in
    let sent = filter (is_sent_by n) messages in
    let here : AllPairs NoLater (taken ++ sent) = pairs_on (2 * n) taken sent (at_once (2 * n) taken (all_taken n messages)) (at_once (2 * n + 1) sent (all_sent n messages))
    (All-weaker (λ m. moment_of m ≡ 2 * n) (λ m. moment_of m ≤ 2 * n) (λ m e. omega arith) taken (all_taken n messages))
    (All-weaker (λ m. moment_of m ≡ 2 * n + 1) (λ m. 2 * n ≤ moment_of m) (λ m e. omega arith) sent (all_sent n messages)) in
    pairs_on (2 * n) (delivered messages n) (taken ++ sent) (delivered_in_time messages n) here
    (All-weaker (λ m. moment_of m < 2 * n) (λ m. moment_of m ≤ 2 * n) (λ m lt. omega arith) (delivered messages n) (all_before messages n))
    (All-append (λ m. 2 * n ≤ moment_of m) taken sent
    (All-weaker (λ m. moment_of m ≡ 2 * n) (λ m. 2 * n ≤ moment_of m) (λ m e. omega arith) taken (all_taken n messages))
    (All-weaker (λ m. moment_of m ≡ 2 * n + 1) (λ m. 2 * n ≤ moment_of m) (λ m e. omega arith) sent (all_sent n messages)))
