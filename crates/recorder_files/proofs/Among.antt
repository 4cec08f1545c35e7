-- Deliveries put among the records of an order: a packet just before the record that takes it, and what the pager sends just after
-- the record that sends it.
use Rattle.std.proofs.Common.{◌≡◌, ℕ, zero, suc, ◌+◌, ◌<◌, ◌≤◌, ◌⊎◌, inl, inr, Bool, true, false, cond, List, [], ◌∷◌, ◌++◌, length, get_or, filter, refl, sym, ap, subst, ◌∙◌, arith, append_assoc, append-nil, eqb-true}
use Rattle.std.specs.Prelude.{Contains, map}
use Rattle.std.specs.List.{range_with_len}
use Rattle.recorder_files.specs.declared.delivering.Message.{Message}
use Rattle.recorder_files.specs.declared.delivering.Message.TheVariants.{Down, Up}
use Rattle.recorder_files.specs.Deliveries.{of_pager, is_taken_by, is_sent_by, delivered}
use Rattle.recorder_files.specs.Orders.{Rec, OfGuest, OfSource, OfPager, Happening, Written, Delivered, sender, taker, pagers, Precedes, IsOrder, records_of, deliveries_of, AreInTime, IsWithDeliveries}

-- ---- elements of a list

here : {A : Type 0} (x : A) (xs : List A) → Contains (x ∷ xs) x
here x xs = (0, omega arith, refl)

there : {A : Type 0} (x y : A) (xs : List A) → Contains xs y → Contains (x ∷ xs) y
there x y xs c = let lt = c.1 in (suc c.0, omega arith, c.2)

none : {A B : Type 0} (x : A) → Contains [] x → B
none x c = let lt = c.1 in absurd (omega arith)

split : {A : Type 0} (x y : A) (xs : List A) → Contains (x ∷ xs) y → (x ≡ y) ⊎ Contains xs y
split x y xs c = go c.0 c.1 c.2
  where
    go : (k : ℕ) → k < length (x ∷ xs) → get_or (x ∷ xs) k y ≡ y → (x ≡ y) ⊎ Contains xs y
    go zero lt e = inl e
    go (suc k) lt e = inr (k, omega arith, e)

at_end : {A : Type 0} (xs : List A) (y : A) → Contains (xs ++ y ∷ []) y
at_end [] y = here y []
at_end (x ∷ xs) y = there x y (xs ++ y ∷ []) (at_end xs y)

but_last : {A : Type 0} (xs : List A) (x y : A) → Contains (xs ++ x ∷ []) y → Contains xs y ⊎ (x ≡ y)
but_last [] x y c = go (split x y [] c)
  where
    go : (x ≡ y) ⊎ Contains [] y → Contains [] y ⊎ (x ≡ y)
    go (inl e) = inr e
    go (inr d) = inl d
but_last (z ∷ xs) x y c = go (λ d. but_last xs x y d) (split z y (xs ++ x ∷ []) c)
  where
    more : Contains xs y ⊎ (x ≡ y) → Contains (z ∷ xs) y ⊎ (x ≡ y)
    more (inl d) = inl (there z y xs d)
    more (inr e) = inr e

    go : (Contains (xs ++ x ∷ []) y → Contains xs y ⊎ (x ≡ y)) → (z ≡ y) ⊎ Contains (xs ++ x ∷ []) y → Contains (z ∷ xs) y ⊎ (x ≡ y)
    go rest (inl e) = inl (subst (λ w. Contains (z ∷ xs) w) e (here z xs))
    go rest (inr d) = more (rest d)

-- ---- a record that stands once

later : (order : List Rec) (a b : Rec) → Precedes order a b → Contains order b
later [] a b p = absurd p
later (r ∷ order) a b (inl both) = there r b order both.1
later (r ∷ order) a b (inr p) = there r b order (later order a b p)

before_it : (past rest : List Rec) (x a : Rec) → Precedes (past ++ x ∷ rest) a x → (Contains rest x → ⊥) → Contains past a
before_it [] rest x a (inl both) once = absurd (once both.1)
before_it [] rest x a (inr p) once = absurd (once (later rest a x p))
before_it (r ∷ past) rest x a (inl both) once = subst (λ z. Contains (r ∷ past) z) both.0 (here r past)
before_it (r ∷ past) rest x a (inr p) once = there r a past (before_it past rest x a p once)

behind_it : (past rest : List Rec) (x b : Rec) → Precedes (past ++ x ∷ rest) x b → (Contains past x → ⊥) → Contains rest b
behind_it [] rest x b (inl both) once = both.1
behind_it [] rest x b (inr p) once = later rest x b p
behind_it (r ∷ past) rest x b (inl both) once = absurd (once (subst (λ z. Contains (r ∷ past) z) both.0 (here r past)))
behind_it (r ∷ past) rest x b (inr p) once = behind_it past rest x b p (λ c. once (there r x past c))

-- ---- the pager's records

abbrev number_of : Rec → ℕ
number_of (OfGuest n) = n
number_of (OfSource n) = n
number_of (OfPager n) = n

abbrev first_of : List ℕ → ℕ
first_of [] = 0
first_of (n ∷ ns) = n

abbrev rest_of : List ℕ → List ℕ
rest_of [] = []
rest_of (n ∷ ns) = ns

pager_high : (rest : List Rec) (n left k : ℕ) → pagers rest ≡ range_with_len n left → Contains rest (OfPager k) → n ≤ k
pager_high [] n left k are c = none (OfPager k) c
pager_high (OfGuest g ∷ rest) n left k are c = go (λ d. pager_high rest n left k are d) (split (OfGuest g) (OfPager k) rest c)
  where
    go : (Contains rest (OfPager k) → n ≤ k) → (OfGuest g ≡ OfPager k) ⊎ Contains rest (OfPager k) → n ≤ k
    go high (inl e) = absurd (cc)
    go high (inr d) = high d
pager_high (OfSource g ∷ rest) n left k are c = go (λ d. pager_high rest n left k are d) (split (OfSource g) (OfPager k) rest c)
  where
    go : (Contains rest (OfPager k) → n ≤ k) → (OfSource g ≡ OfPager k) ⊎ Contains rest (OfPager k) → n ≤ k
    go high (inl e) = absurd (cc)
    go high (inr d) = high d
pager_high (OfPager j ∷ rest) n zero k are c = absurd (cc)
pager_high (OfPager j ∷ rest) n (suc left) k are c = go (λ d. pager_high rest (n + 1) left k (ap rest_of are) d) (split (OfPager j) (OfPager k) rest c)
  where
    go : (Contains rest (OfPager k) → n + 1 ≤ k) → (OfPager j ≡ OfPager k) ⊎ Contains rest (OfPager k) → n ≤ k
    go high (inl e) = let same : j ≡ k = ap number_of e in let first : j ≡ n = ap first_of are in omega (arith, same, first)
    go high (inr d) = let le = high d in omega (arith, le)

-- ---- the deliveries among the records

abbrev at_pager : List Message → ℕ → List Happening → List Happening
at_pager messages n all = map (λ m. Delivered m) (filter (is_taken_by n) messages) ++ (Written (OfPager n) ∷ (map (λ m. Delivered m) (filter (is_sent_by n) messages) ++ all))

abbrev woven : List Message → List Rec → List Happening
woven messages [] = []
woven messages (OfGuest n ∷ order) = Written (OfGuest n) ∷ woven messages order
woven messages (OfSource n ∷ order) = Written (OfSource n) ∷ woven messages order
woven messages (OfPager n ∷ order) = at_pager messages n (woven messages order)

records_behind : (ms : List Message) (all : List Happening) → records_of (map (λ m. Delivered m) ms ++ all) ≡ records_of all
records_behind [] all = refl
records_behind (m ∷ ms) all = records_behind ms all

deliveries_behind : (ms : List Message) (all : List Happening) → deliveries_of (map (λ m. Delivered m) ms ++ all) ≡ ms ++ deliveries_of all
deliveries_behind [] all = refl
deliveries_behind (m ∷ ms) all = ap (λ (xs : List Message). m ∷ xs) (deliveries_behind ms all)

records_are : (messages : List Message) (order : List Rec) → records_of (woven messages order) ≡ order
records_are messages [] = refl
records_are messages (OfGuest n ∷ order) = ap (λ (rs : List Rec). OfGuest n ∷ rs) (records_are messages order)
records_are messages (OfSource n ∷ order) = ap (λ (rs : List Rec). OfSource n ∷ rs) (records_are messages order)
records_are messages (OfPager n ∷ order) =
    records_behind (filter (is_taken_by n) messages) (Written (OfPager n) ∷ (map (λ m. Delivered m) (filter (is_sent_by n) messages) ++ woven messages order))
    ∙ ap (λ (rs : List Rec). OfPager n ∷ rs) (records_behind (filter (is_sent_by n) messages) (woven messages order) ∙ records_are messages order)

abbrev at_number : List Message → ℕ → List Message
at_number messages n = filter (is_taken_by n) messages ++ filter (is_sent_by n) messages

-- the deliveries from one record of the pager on
abbrev from_on : List Message → ℕ → ℕ → List Message
from_on messages n zero = []
from_on messages n (suc left) = at_number messages n ++ from_on messages (n + 1) left

deliveries_from : (messages : List Message) (order : List Rec) (n left : ℕ) → pagers order ≡ range_with_len n left → deliveries_of (woven messages order) ≡ from_on messages n left
deliveries_from messages [] n zero are = refl
deliveries_from messages [] n (suc left) are = absurd (cc)
deliveries_from messages (OfGuest k ∷ order) n left are = deliveries_from messages order n left are
deliveries_from messages (OfSource k ∷ order) n left are = deliveries_from messages order n left are
deliveries_from messages (OfPager k ∷ order) n zero are = absurd (cc)
deliveries_from messages (OfPager k ∷ order) n (suc left) are =
    let first : k ≡ n = ap first_of are in
    let taken = filter (is_taken_by k) messages in
    let sent = filter (is_sent_by k) messages in
    deliveries_behind taken (Written (OfPager k) ∷ (map (λ m. Delivered m) sent ++ woven messages order))
    ∙ ap (λ (ms : List Message). taken ++ ms) (deliveries_behind sent (woven messages order))
    ∙ sym (append_assoc taken sent (deliveries_of (woven messages order)))
    ∙ ap (λ (ms : List Message). at_number messages k ++ ms) (deliveries_from messages order (n + 1) left (ap rest_of are))
    ∙ ap (λ (j : ℕ). at_number messages j ++ from_on messages (n + 1) left) first

delivered_on : (messages : List Message) (n left : ℕ) → delivered messages n ++ from_on messages n left ≡ delivered messages (n + left)
delivered_on messages n zero = let same : n ≡ n + 0 = omega arith in append-nil (delivered messages n) ∙ ap (delivered messages) same
delivered_on messages n (suc left) =
    let one : n + 1 ≡ suc n = omega arith in
    let same : suc n + left ≡ n + suc left = omega arith in
    sym (append_assoc (delivered messages n) (at_number messages n) (from_on messages (n + 1) left))
    ∙ ap (λ (j : ℕ). delivered messages (suc n) ++ from_on messages j left) one
    ∙ delivered_on messages (suc n) left
    ∙ ap (delivered messages) same

-- messages that are delivered at one place
all_in_time : (test : Message → Bool) (past : List Rec) (ms : List Message) (all : List Happening) → ((m : Message) → Contains ms m → test m ≡ true → Contains past (sender m) × Contains (records_of all) (taker m)) → AreInTime past all → AreInTime past (map (λ m. Delivered m) (filter test ms) ++ all)
all_in_time test past [] all each rest = rest
all_in_time test past (m ∷ ms) all each rest = go (all_in_time test past ms all (λ n c. each n (there m n ms c)) rest) (test m) refl
  where
    go : AreInTime past (map (λ m. Delivered m) (filter test ms) ++ all) → (b : Bool) → test m ≡ b → AreInTime past (map (λ m. Delivered m) (cond b (m ∷ filter test ms) (filter test ms)) ++ all)
    go others false e = others
    go others true e =
        let both = each m (here m ms) e in
        (both.0, subst (λ (rs : List Rec). Contains rs (taker m)) (sym (records_behind (filter test ms) all)) both.1, others)

module _ (messages : List Message) (count : ℕ) (order : List Rec) (is : IsOrder messages count order) where
  in_time : (past rest : List Rec) (n left : ℕ) → past ++ rest ≡ order → n + left ≡ count → pagers rest ≡ range_with_len n left → ((k : ℕ) → Contains past (OfPager k) → k < n) → AreInTime past (woven messages rest)
  in_time past [] n left whole all are low = tt
  in_time past (OfGuest g ∷ rest) n left whole all are low =
      in_time (past ++ OfGuest g ∷ []) rest n left (append_assoc past (OfGuest g ∷ []) rest ∙ whole) all are (λ k c. go k (but_last past (OfGuest g) (OfPager k) c))
    where
      go : (k : ℕ) → Contains past (OfPager k) ⊎ (OfGuest g ≡ OfPager k) → k < n
      go k (inl c) = low k c
      go k (inr e) = absurd (cc)
  in_time past (OfSource g ∷ rest) n left whole all are low =
      in_time (past ++ OfSource g ∷ []) rest n left (append_assoc past (OfSource g ∷ []) rest ∙ whole) all are (λ k c. go k (but_last past (OfSource g) (OfPager k) c))
    where
      go : (k : ℕ) → Contains past (OfPager k) ⊎ (OfSource g ≡ OfPager k) → k < n
      go k (inl c) = low k c
      go k (inr e) = absurd (cc)
  in_time past (OfPager j ∷ rest) n zero whole all are low = absurd (cc)
  in_time past (OfPager j ∷ rest) n (suc left) whole all are low =
      all_in_time (is_taken_by j) past messages (Written (OfPager j) ∷ (map (λ m. Delivered m) (filter (is_sent_by j) messages) ++ woven messages rest)) taken
      (all_in_time (is_sent_by j) (past ++ OfPager j ∷ []) messages (woven messages rest) sent
      (in_time (past ++ OfPager j ∷ []) rest (n + 1) left (append_assoc past (OfPager j ∷ []) rest ∙ whole) (omega (arith, all)) (ap rest_of are) (λ k c. go k (but_last past (OfPager j) (OfPager k) c))))
    where
      first : j ≡ n
      first = ap first_of are

      below : j < count
      below = omega (arith, first, all)

      go : (k : ℕ) → Contains past (OfPager k) ⊎ (OfPager j ≡ OfPager k) → k < n + 1
      go k (inl c) = let lt = low k c in omega (arith, lt)
      go k (inr e) = let same : j ≡ k = ap number_of e in omega (arith, same, first)

      not_behind : Contains rest (OfPager j) → ⊥
      not_behind c = let le = pager_high rest (n + 1) left j (ap rest_of are) c in absurd (omega (arith, le, first))

      not_before : Contains past (OfPager j) → ⊥
      not_before c = let lt = low j c in absurd (omega (arith, lt, first))

      precedes : (m : Message) → Contains messages m → of_pager m ≡ j → Precedes (past ++ OfPager j ∷ rest) (sender m) (taker m)
      precedes m c e = subst (λ (rs : List Rec). Precedes rs (sender m) (taker m)) (sym whole) (is.after m c (omega (arith, e, below)))

      taken : (m : Message) → Contains messages m → is_taken_by j m ≡ true → Contains past (sender m) × Contains (OfPager j ∷ records_of (map (λ m. Delivered m) (filter (is_sent_by j) messages) ++ woven messages rest)) (taker m)
      taken (Up s t) c e = absurd (cc)
      taken (Down s t) c e =
          let same : t ≡ j = eqb-true t j e in
          let p = subst (λ (k : ℕ). Precedes (past ++ OfPager j ∷ rest) (OfSource s) (OfPager k)) same (precedes (Down s t) c same) in
          let others = records_of (map (λ m. Delivered m) (filter (is_sent_by j) messages) ++ woven messages rest) in
          (before_it past rest (OfPager j) (OfSource s) p not_behind, subst (λ (k : ℕ). Contains (OfPager j ∷ others) (OfPager k)) (sym same) (here (OfPager j) others))

      sent : (m : Message) → Contains messages m → is_sent_by j m ≡ true → Contains (past ++ OfPager j ∷ []) (sender m) × Contains (records_of (woven messages rest)) (taker m)
      sent (Down s t) c e = absurd (cc)
      sent (Up s t) c e =
          let same : s ≡ j = eqb-true s j e in
          let p = subst (λ (k : ℕ). Precedes (past ++ OfPager j ∷ rest) (OfPager k) (OfSource t)) same (precedes (Up s t) c same) in
          (subst (λ (k : ℕ). Contains (past ++ OfPager j ∷ []) (OfPager k)) (sym same) (at_end past (OfPager j)), subst (λ (rs : List Rec). Contains rs (OfSource t)) (sym (records_are messages rest)) (behind_it past rest (OfPager j) (OfSource t) p not_before))

  pub with_deliveries : IsWithDeliveries messages count order (woven messages order)
  with_deliveries = record {
    records = records_are messages order;
    deliveries = let same : 0 + count ≡ count = omega arith in deliveries_from messages order 0 count is.pagers_are ∙ delivered_on messages 0 count ∙ ap (delivered messages) same;
    in_time = in_time [] order 0 count refl (omega arith) is.pagers_are (λ k c. none (OfPager k) c);
  }

pub cost_no_order : (messages : List Message) (count : ℕ) (order : List Rec) → IsOrder messages count order → (all : List Happening) × IsWithDeliveries messages count order all
cost_no_order messages count order is = (woven messages order, with_deliveries messages count order is)
