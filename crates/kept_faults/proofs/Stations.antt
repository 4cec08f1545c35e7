-- Where a message stands among the deliveries: beside its record of the pager.
use Rattle.std.proofs.Common.{◌≡◌, refl, ℕ, zero, suc, ◌+◌, ◌<◌, ◌≤◌, ◌⊎◌, inl, inr, Bool, true, false, cond, List, [], ◌∷◌, ◌++◌, length, filter, Some, ap, ◌∙◌, subst, arith, eqb-true, length-append}
use Rattle.std.specs.Prelude.{Contains, slice_get}
use Rattle.std.proofs.lemmas.Bool.{cases_lt}
use Rattle.std.proofs.lemmas.Option.{slice_get_within}
use Rattle.std.proofs.lemmas.List.Elements.{Contains-append_left, Contains-append_right, Contains-push}
use Rattle.recorder_files.specs.declared.delivering.Message.{Message}
use Rattle.recorder_files.specs.declared.delivering.Message.TheVariants.{Down, Up}
use Rattle.recorder_files.specs.Deliveries.{is_taken_by, is_sent_by, delivered}

-- ---- parts of lists

pub at_place : {A : Type 0} (xs : List A) (k : ℕ) → k < length xs → (x : A) × (slice_get xs k ≡ Some x)
at_place [] k lt = absurd (omega (arith, lt))
at_place (x ∷ xs) zero lt = (x, refl)
at_place (x ∷ xs) (suc k) lt = at_place xs k (omega (arith, lt))

-- an element of two lists in a row
joined : {A : Type 0} (xs ys : List A) (k : ℕ) (y : A) → slice_get (xs ++ ys) k ≡ Some y → (slice_get xs k ≡ Some y) ⊎ ((j : ℕ) × (k ≡ length xs + j) × (slice_get ys j ≡ Some y))
joined [] ys k y e = inr (k, omega arith, e)
joined (x ∷ xs) ys zero y e = inl e
joined (x ∷ xs) ys (suc k) y e = go (joined xs ys k y e)
  where
    go : (slice_get xs k ≡ Some y) ⊎ ((j : ℕ) × (k ≡ length xs + j) × (slice_get ys j ≡ Some y)) → (slice_get xs k ≡ Some y) ⊎ ((j : ℕ) × (suc k ≡ suc (length xs) + j) × (slice_get ys j ≡ Some y))
    go (inl f) = inl f
    go (inr (j, at, f)) = inr (j, omega (arith, at), f)

-- an element of a filtered list
filter_there : {A : Type 0} (test : A → Bool) (xs : List A) (k : ℕ) (x : A) → slice_get (filter test xs) k ≡ Some x → (test x ≡ true) × Contains xs x
filter_there test [] k x e = absurd (cc)
filter_there {A} test (y ∷ ys) k x e = go (test y) refl (λ j f. filter_there test ys j x f) k e
  where
    behind : (test x ≡ true) × Contains ys x → (test x ≡ true) × Contains (y ∷ ys) x
    behind both = (both.0, Contains-append_right (y ∷ []) ys x both.1)

    go : (b : Bool) → test y ≡ b → ((j : ℕ) → slice_get (filter test ys) j ≡ Some x → (test x ≡ true) × Contains ys x) → (k : ℕ) → slice_get (cond b (y ∷ filter test ys) (filter test ys)) k ≡ Some x → (test x ≡ true) × Contains (y ∷ ys) x
    go false is rec k e = behind (rec k e)
    go true is rec zero e =
        let same : y ≡ x = cc in
        let Q : A → Type 0 = λ z. (test z ≡ true) × Contains (y ∷ ys) z in
        subst Q same (is, Contains-append_left (y ∷ []) ys y (Contains-push [] y))
    go true is rec (suc k) e = behind (rec k e)

-- ---- how many are delivered

abbrev pub many : List Message → ℕ → ℕ
many messages n = length (delivered messages n)

-- the packets that a record of the pager takes, and what it sends
abbrev pub many_taken : List Message → ℕ → ℕ
many_taken messages n = length (filter (is_taken_by n) messages)

abbrev pub many_sent : List Message → ℕ → ℕ
many_sent messages n = length (filter (is_sent_by n) messages)

pub many_next : (messages : List Message) (n : ℕ) → many messages (suc n) ≡ many messages n + (many_taken messages n + many_sent messages n)
many_next messages n =
    length-append (delivered messages n) (filter (is_taken_by n) messages ++ filter (is_sent_by n) messages)
    ∙ ap (λ k. many messages n + k) (length-append (filter (is_taken_by n) messages) (filter (is_sent_by n) messages))

pub many_up : (messages : List Message) (a b : ℕ) → a ≤ b → many messages a ≤ many messages b
many_up messages zero zero le = omega arith
many_up messages (suc a) zero le = absurd (omega (arith, le))
many_up messages a (suc b) le = go (λ low. many_up messages a b low) (cases_lt a (suc b))
  where
    go : (a ≤ b → many messages a ≤ many messages b) → (a < suc b) ⊎ (suc b ≤ a) → many messages a ≤ many messages (suc b)
    go up (inl lt) = omega (arith, many_next messages b, up (omega (arith, lt)))
    go up (inr ge) = let same : a ≡ suc b = omega (arith, le, ge) in let e : many messages a ≡ many messages (suc b) = ap (many messages) same in omega (arith, e)

-- ---- where a message stands

abbrev pub Stands : List Message → ℕ → ℕ → Message → Type 0
Stands messages count j (Down sent taken) = (taken < count) × (many messages taken ≤ j) × (j < many messages taken + many_taken messages taken)
Stands messages count j (Up sent taken) = (sent < count) × (many messages sent + many_taken messages sent ≤ j) × (j < many messages (suc sent))

stands_on : (messages : List Message) (n j : ℕ) (m : Message) → Stands messages n j m → Stands messages (suc n) j m
stands_on messages n j (Down s t) is = (omega (arith, is.0), is.1, is.2)
stands_on messages n j (Up s t) is = (omega (arith, is.0), is.1, is.2)

stands_taken : (messages : List Message) (n j k : ℕ) (m : Message) → j ≡ many messages n + k → slice_get (filter (is_taken_by n) messages) k ≡ Some m → Stands messages (suc n) j m × Contains messages m
stands_taken messages n j k (Up s t) at e = absurd (let test = (filter_there (is_taken_by n) messages k (Up s t) e).0 in cc)
stands_taken messages n j k (Down s t) at e =
    let is = filter_there (is_taken_by n) messages k (Down s t) e in
    let same : t ≡ n = eqb-true t n is.0 in
    let lt = slice_get_within (filter (is_taken_by n) messages) k (Down s t) e in
    let before : many messages t ≡ many messages n = ap (many messages) same in
    let here : many_taken messages t ≡ many_taken messages n = ap (many_taken messages) same in
    ((omega (arith, same), omega (arith, before, at), omega (arith, before, here, at, lt)), is.1)

stands_sent : (messages : List Message) (n j k : ℕ) (m : Message) → j ≡ many messages n + (many_taken messages n + k) → slice_get (filter (is_sent_by n) messages) k ≡ Some m → Stands messages (suc n) j m × Contains messages m
stands_sent messages n j k (Down s t) at e = absurd (let test = (filter_there (is_sent_by n) messages k (Down s t) e).0 in cc)
stands_sent messages n j k (Up s t) at e =
    let is = filter_there (is_sent_by n) messages k (Up s t) e in
    let same : s ≡ n = eqb-true s n is.0 in
    let lt = slice_get_within (filter (is_sent_by n) messages) k (Up s t) e in
    let before : many messages s ≡ many messages n = ap (many messages) same in
    let here : many_taken messages s ≡ many_taken messages n = ap (many_taken messages) same in
    let sent : many_sent messages s ≡ many_sent messages n = ap (many_sent messages) same in
    let next = many_next messages s in
    ((omega (arith, same), omega (arith, before, here, at), omega (arith, before, here, sent, next, at, lt)), is.1)

-- each delivery stands beside its record of the pager, and is one of the messages
pub stands : (messages : List Message) (count j : ℕ) (m : Message) → slice_get (delivered messages count) j ≡ Some m → Stands messages count j m × Contains messages m
stands messages zero j m e = absurd (cc)
stands messages (suc n) j m e = go (λ f. stands messages n j m f) (joined (delivered messages n) (filter (is_taken_by n) messages ++ filter (is_sent_by n) messages) j m e)
  where
    here : (k : ℕ) → j ≡ many messages n + k → (slice_get (filter (is_taken_by n) messages) k ≡ Some m) ⊎ ((i : ℕ) × (k ≡ many_taken messages n + i) × (slice_get (filter (is_sent_by n) messages) i ≡ Some m)) → Stands messages (suc n) j m × Contains messages m
    here k at (inl f) = stands_taken messages n j k m at f
    here k at (inr (i, is, f)) = stands_sent messages n j i m (omega (arith, at, is)) f

    go : (slice_get (delivered messages n) j ≡ Some m → Stands messages n j m × Contains messages m) → (slice_get (delivered messages n) j ≡ Some m) ⊎ ((k : ℕ) × (j ≡ many messages n + k) × (slice_get (filter (is_taken_by n) messages ++ filter (is_sent_by n) messages) k ≡ Some m)) → Stands messages (suc n) j m × Contains messages m
    go before (inl f) = let r = before f in (stands_on messages n j m r.0, r.1)
    go before (inr (k, at, f)) = here k at (joined (filter (is_taken_by n) messages) (filter (is_sent_by n) messages) k m f)

-- what a record of the pager takes is a packet for it, and what stands behind that is what it sends
pub taken_here : (messages : List Message) (count n j : ℕ) (m : Message) → slice_get (delivered messages count) j ≡ Some m → many messages n ≤ j → j < many messages n + many_taken messages n → (sent : ℕ) × (m ≡ Down sent n)
taken_here messages count n j m e low high = go m (stands messages count j m e).0
  where
    go : (m : Message) → Stands messages count j m → (sent : ℕ) × (m ≡ Down sent n)
    go (Down s t) is = (s, at (cases_lt t n) (cases_lt n t))
      where
        at : (t < n) ⊎ (n ≤ t) → (n < t) ⊎ (t ≤ n) → Down s t ≡ Down s n
        at (inl lt) other = absurd (omega (arith, is.1, is.2, low, many_next messages t, many_up messages (suc t) n (omega (arith, lt))))
        at (inr le) (inl lt) = absurd (omega (arith, is.1, high, many_next messages n, many_up messages (suc n) t (omega (arith, lt))))
        at (inr le) (inr ge) = let same : t ≡ n = omega (arith, le, ge) in ap (λ (k : ℕ). Down s k) same
    go (Up s t) is = absurd (at (cases_lt s n) (cases_lt n s))
      where
        at : (s < n) ⊎ (n ≤ s) → (n < s) ⊎ (s ≤ n) → ⊥
        at (inl lt) other = absurd (omega (arith, is.2, low, many_up messages (suc s) n (omega (arith, lt))))
        at (inr le) (inl lt) = absurd (omega (arith, is.1, high, many_next messages n, many_up messages (suc n) s (omega (arith, lt))))
        at (inr le) (inr ge) =
            let same : s ≡ n = omega (arith, le, ge) in
            let before : many messages s ≡ many messages n = ap (many messages) same in
            let here : many_taken messages s ≡ many_taken messages n = ap (many_taken messages) same in
            absurd (omega (arith, is.1, high, before, here))

pub sent_here : (messages : List Message) (count n j : ℕ) (m : Message) → slice_get (delivered messages count) j ≡ Some m → many messages n + many_taken messages n ≤ j → j < many messages (suc n) → (taken : ℕ) × (m ≡ Up n taken)
sent_here messages count n j m e low high = go m (stands messages count j m e).0
  where
    go : (m : Message) → Stands messages count j m → (taken : ℕ) × (m ≡ Up n taken)
    go (Up s t) is = (t, at (cases_lt s n) (cases_lt n s))
      where
        at : (s < n) ⊎ (n ≤ s) → (n < s) ⊎ (s ≤ n) → Up s t ≡ Up n t
        at (inl lt) other = absurd (omega (arith, is.2, low, many_up messages (suc s) n (omega (arith, lt))))
        at (inr le) (inl lt) = absurd (omega (arith, is.1, high, many_up messages (suc n) s (omega (arith, lt))))
        at (inr le) (inr ge) = let same : s ≡ n = omega (arith, le, ge) in ap (λ (k : ℕ). Up k t) same
    go (Down s t) is = absurd (at (cases_lt t n) (cases_lt n t))
      where
        at : (t < n) ⊎ (n ≤ t) → (n < t) ⊎ (t ≤ n) → ⊥
        at (inl lt) other = absurd (omega (arith, is.2, low, many_next messages t, many_up messages (suc t) n (omega (arith, lt))))
        at (inr le) (inl lt) = absurd (omega (arith, is.1, high, many_up messages (suc n) t (omega (arith, lt))))
        at (inr le) (inr ge) =
            let same : t ≡ n = omega (arith, le, ge) in
            let before : many messages t ≡ many messages n = ap (many messages) same in
            let here : many_taken messages t ≡ many_taken messages n = ap (many_taken messages) same in
            absurd (omega (arith, is.2, low, before, here))
