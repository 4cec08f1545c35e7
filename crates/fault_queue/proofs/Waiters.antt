-- Who waits for each page, after a fault and after an entry is taken out.
use Rattle.std.proofs.Common.{◌≡◌, ℕ, zero, suc, ◌+◌, ◌<◌, length, take, arith, Bool, true, false, cond, not, ◌||◌, List, [], ◌∷◌, ◌++◌, Option, None, Some, is_some, refl, sym, ap, ◌∙◌}
use Rattle.std.specs.Prelude.{◌==◌, slice_index_or}
use Rattle.std.specs.List.{find}
use Rattle.std.specs.Option.{option_map, unwrap_or}
use Rattle.std.proofs.lemmas.Bool.{eqb-true, eq-eqb, ne_eqb, eqb-false, both_ways}
use Rattle.std.proofs.lemmas.List.{append-nil}
use Rattle.fault_queue.specs.Waiting.{Waiting, is_asked, waiters_of, waiting_for, with_waiter, joined, entry, asked, without, without_all}

is_some_waiters : (p : ℕ) (es : List Waiting) → is_some (waiters_of p es) ≡ is_asked p es
is_some_waiters p [] = refl
is_some_waiters p (e ∷ es) = go (is_some_waiters p es) (p == e.page)
  where
    go : is_some (waiters_of p es) ≡ is_asked p es → (a : Bool) → is_some (option_map (λ (w : Waiting). w.vcpus) (cond a (Some e) (find (λ w. p == w.page) es))) ≡ (a || is_asked p es)
    go rest true = refl
    go rest false = rest

-- the page's entry, with one more
abbrev one_more : ℕ → ℕ → ℕ → List ℕ → List ℕ
one_more p page vcpu xs = xs ++ cond (p == page) (vcpu ∷ []) []

head_joined : (p page vcpu : ℕ) (e : Waiting) (es : List Waiting) → waiters_of p (joined page vcpu es) ≡ option_map (one_more p page vcpu) (waiters_of p es) → (a b : Bool) → (p == e.page) ≡ a → (page == e.page) ≡ b →
    option_map (λ (w : Waiting). w.vcpus) (cond a (Some (cond b (with_waiter vcpu e) e)) (find (λ w. p == w.page) (joined page vcpu es))) ≡ option_map (one_more p page vcpu) (option_map (λ (w : Waiting). w.vcpus) (cond a (Some e) (find (λ w. p == w.page) es)))
head_joined p page vcpu e es rest false b at is = rest
head_joined p page vcpu e es rest true true at is =
    let same : (p == page) ≡ true = eq-eqb p page (eqb-true p e.page at ∙ sym (eqb-true page e.page is)) in
    ap (λ c. Some (e.vcpus ++ cond c (vcpu ∷ []) [])) (sym same)
head_joined p page vcpu e es rest true false at is =
    let other : (p == page) ≡ false = ne_eqb p page (λ h. eqb-false page e.page is (sym h ∙ eqb-true p e.page at)) in
    ap Some (sym (append-nil e.vcpus)) ∙ ap (λ c. Some (e.vcpus ++ cond c (vcpu ∷ []) [])) (sym other)

waiters_joined : (p page vcpu : ℕ) (es : List Waiting) → waiters_of p (joined page vcpu es) ≡ option_map (one_more p page vcpu) (waiters_of p es)
waiters_joined p page vcpu [] = refl
waiters_joined p page vcpu (e ∷ es) = go (head_joined p page vcpu e es (waiters_joined p page vcpu es) (p == e.page)) (page == e.page) refl
  where
    go : ((b : Bool) → (p == e.page) ≡ (p == e.page) → (page == e.page) ≡ b → option_map (λ (w : Waiting). w.vcpus) (cond (p == e.page) (Some (cond b (with_waiter vcpu e) e)) (find (λ w. p == w.page) (joined page vcpu es))) ≡ option_map (one_more p page vcpu) (waiters_of p (e ∷ es)))
        → (b : Bool) → (page == e.page) ≡ b → waiters_of p (cond b (with_waiter vcpu e) e ∷ joined page vcpu es) ≡ option_map (one_more p page vcpu) (waiters_of p (e ∷ es))
    go head true is = head true refl is
    go head false is = head false refl is

-- an entry behind the others is found where none of them is
waiters_new : (p : ℕ) (es : List Waiting) (last : Waiting) → waiters_of p (es ++ last ∷ []) ≡ cond (is_asked p es) (waiters_of p es) (waiters_of p (last ∷ []))
waiters_new p [] last = refl
waiters_new p (e ∷ es) last = go (waiters_new p es last) (p == e.page)
  where
    go : waiters_of p (es ++ last ∷ []) ≡ cond (is_asked p es) (waiters_of p es) (waiters_of p (last ∷ [])) → (a : Bool) →
        option_map (λ (w : Waiting). w.vcpus) (cond a (Some e) (find (λ w. p == w.page) (es ++ last ∷ []))) ≡ cond (a || is_asked p es) (option_map (λ (w : Waiting). w.vcpus) (cond a (Some e) (find (λ w. p == w.page) es))) (waiters_of p (last ∷ []))
    go rest true = refl
    go rest false = rest

pub waiting_asked : (p page vcpu : ℕ) (es : List Waiting) → waiting_for p (asked page vcpu es) ≡ waiting_for p es ++ cond (p == page) (vcpu ∷ []) []
waiting_asked p page vcpu es = go (is_asked page es) refl
  where
    more : (o : Option (List ℕ)) → (is_some o ≡ false → (p == page) ≡ false) → unwrap_or (option_map (one_more p page vcpu) o) [] ≡ unwrap_or o [] ++ cond (p == page) (vcpu ∷ []) []
    more None h = ap (λ c. cond c (vcpu ∷ []) []) (sym (h refl))
    more (Some xs) h = refl

    -- where the page has an entry, another page is looked up
    apart : is_asked page es ≡ true → is_some (waiters_of p es) ≡ false → (p == page) ≡ false
    apart is none = ne_eqb p page (λ h. both_ways (is_asked page es) (ap (λ q. is_asked q es) (sym h) ∙ sym (is_some_waiters p es) ∙ none) is)

    -- where it has none, nobody waits for it
    fresh : (a c : Bool) → (p == page) ≡ c → is_asked p es ≡ a → is_asked page es ≡ false → unwrap_or (cond a (waiters_of p es) (option_map (λ (w : Waiting). w.vcpus) (cond c (Some (entry page vcpu)) None))) [] ≡ unwrap_or (waiters_of p es) [] ++ cond c (vcpu ∷ []) []
    fresh true true same there none = absurd (both_ways (is_asked p es) (ap (λ q. is_asked q es) (eqb-true p page same) ∙ none) there)
    fresh true false same there none = sym (append-nil (unwrap_or (waiters_of p es) []))
    fresh false c same there none = nobody (waiters_of p es) c (is_some_waiters p es ∙ there)
      where
        nobody : (o : Option (List ℕ)) (c : Bool) → is_some o ≡ false → unwrap_or (option_map (λ (w : Waiting). w.vcpus) (cond c (Some (entry page vcpu)) None)) [] ≡ unwrap_or o [] ++ cond c (vcpu ∷ []) []
        nobody None true h = refl
        nobody None false h = refl
        nobody (Some xs) c h = absurd (cc)

    go : (b : Bool) → is_asked page es ≡ b → waiting_for p (cond b (joined page vcpu es) (es ++ entry page vcpu ∷ [])) ≡ waiting_for p es ++ cond (p == page) (vcpu ∷ []) []
    go true is = ap (λ o. unwrap_or o []) (waiters_joined p page vcpu es) ∙ more (waiters_of p es) (apart is)
    go false is = ap (λ o. unwrap_or o []) (waiters_new p es (entry page vcpu)) ∙ fresh (is_asked p es) (p == page) refl refl is

-- an entry taken out
waiters_without : (p page : ℕ) (es : List Waiting) → waiters_of p (without page es) ≡ cond (p == page) None (waiters_of p es)
waiters_without p page [] = empty (p == page)
  where
    empty : (c : Bool) → waiters_of p [] ≡ cond c None (waiters_of p [])
    empty true = refl
    empty false = refl
waiters_without p page (e ∷ es) = go (waiters_without p page es) (page == e.page) (p == e.page) refl refl
  where
    go : waiters_of p (without page es) ≡ cond (p == page) None (waiters_of p es) → (b a : Bool) → (page == e.page) ≡ b → (p == e.page) ≡ a →
        waiters_of p (cond (not b) (e ∷ without page es) (without page es)) ≡ cond (p == page) None (option_map (λ (w : Waiting). w.vcpus) (cond a (Some e) (find (λ w. p == w.page) es)))
    go rest true true is at = rest ∙ ap (λ c. cond c None (waiters_of p es)) same ∙ sym (ap (λ c. cond c None (Some e.vcpus)) same)
      where
        same : (p == page) ≡ true
        same = eq-eqb p page (eqb-true p e.page at ∙ sym (eqb-true page e.page is))
    go rest true false is at = rest
    go rest false true is at = ap (λ c. option_map (λ (w : Waiting). w.vcpus) (cond c (Some e) (find (λ w. p == w.page) (without page es)))) at ∙ sym (ap (λ c. cond c None (Some e.vcpus)) other)
      where
        other : (p == page) ≡ false
        other = ne_eqb p page (λ h. eqb-false page e.page is (sym h ∙ eqb-true p e.page at))
    go rest false false is at = ap (λ c. option_map (λ (w : Waiting). w.vcpus) (cond c (Some e) (find (λ w. p == w.page) (without page es)))) at ∙ rest

pub waiting_without : (p page : ℕ) (es : List Waiting) → waiting_for p (without page es) ≡ cond (p == page) [] (waiting_for p es)
waiting_without p page es = ap (λ o. unwrap_or o []) (waiters_without p page es) ∙ go (p == page)
  where
    go : (c : Bool) → unwrap_or (cond c None (waiters_of p es)) [] ≡ cond c [] (waiting_for p es)
    go true = refl
    go false = refl

-- one page's entry less
pub without_more : (xs : List ℕ) (es : List Waiting) (i x : ℕ) → i < length xs → x ≡ slice_index_or xs i x → without x (without_all (take i xs) es) ≡ without_all (take (i + 1) xs) es
without_more xs es i x lt is = go xs es i lt is ∙ ap (λ n. without_all (take n xs) es) (let e : suc i ≡ i + 1 = omega arith in e)
  where
    go : (xs : List ℕ) (es : List Waiting) (i : ℕ) → i < length xs → x ≡ slice_index_or xs i x → without x (without_all (take i xs) es) ≡ without_all (take (suc i) xs) es
    go [] es i lt is = absurd (omega arith)
    go (y ∷ xs) es zero lt is = ap (λ p. without p es) is
    go (y ∷ xs) es (suc i) lt is = go xs (without y es) i (omega arith) is
