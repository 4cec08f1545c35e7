-- Marks by the places of those that keep.
use Rattle.std.proofs.Common.{◌≡◌, ◌≢◌, ℕ, zero, suc, ◌+◌, ◌<◌, ◌≤◌, ◌⊎◌, inl, inr, Bool, true, false, List, [], ◌∷◌, ◌++◌, length, map, Some, None, refl, sym, ap, subst, ◌∙◌, arith}
use Rattle.std.specs.Prelude.{◌==◌, ◌||◌, nat_eq, slice_get}
use Rattle.std.specs.List.{range_with_len}
use Rattle.std.specs.Option.{option_map}
use Rattle.std.proofs.lemmas.Option.{slice_get-map}
use Rattle.std.proofs.lemmas.Bool.{cases_lt}
use Rattle.std.proofs.lemmas.Bool.Decides.{nat_tests}
use Rattle.std.proofs.lemmas.List.Folds.{list_any-append}
use Rattle.std.proofs.lemmas.List.FromFn.{map-range_with_len_more, length-map-range_with_len}
use Rattle.audit_model.specs.Windows.{is_marked}
use Rattle.windows.specs.inner.Marks.{is_in, marks_of, Rises, has_mark}

-- places from a number on have none below it
pub none_below : (low end : ℕ) (places : List ℕ) (n : ℕ) → Rises low end places → n < low → is_in places n ≡ false
none_below low end [] n r lt = refl
none_below low end (p ∷ places) n r lt = let b = none_below (suc p) end places n r.2 (omega arith) in different p n (is_in places n) (omega arith) b
  where
    different : (p n : ℕ) (rest : Bool) → n < p → rest ≡ false → ((p == n) || rest) ≡ false
    different p n rest lt e = grind (arith, nat_tests)

pub none_past : (low end : ℕ) (places : List ℕ) (n : ℕ) → Rises low end places → end ≤ n → is_in places n ≡ false
none_past low end [] n r le = refl
none_past low end (p ∷ places) n r le = let b = none_past (suc p) end places n r.2 le in different p n (is_in places n) (omega arith) b
  where
    different : (p n : ℕ) (rest : Bool) → p < n → rest ≡ false → ((p == n) || rest) ≡ false
    different p n rest lt e = grind (arith, nat_tests)

pub rises_longer : (low end : ℕ) (places : List ℕ) → Rises low end places → Rises low (end + 1) places
rises_longer low end [] r = tt
rises_longer low end (p ∷ places) r = (r.0, omega arith, rises_longer (suc p) end places r.2)

pub rises_on : (low end : ℕ) (places : List ℕ) → low ≤ end → Rises low end places → Rises low (end + 1) (places ++ end ∷ [])
rises_on low end [] le r = (le, omega arith, tt)
rises_on low end (p ∷ places) le r = (r.0, omega arith, rises_on (suc p) end places (omega arith) r.2)

-- a list of numbers below an end, by two functions that are the same there
same_below : {A : Type 0} (f g : ℕ → A) (low count : ℕ) → ((n : ℕ) → n < low + count → f n ≡ g n) → map f (range_with_len low count) ≡ map g (range_with_len low count)
same_below f g low zero same = refl
same_below f g low (suc count) same = ap (λ x. x ∷ map f (range_with_len (low + 1) count)) (same low (omega arith)) ∙ ap (λ xs. g low ∷ xs) (same_below f g (low + 1) count (λ n lt. same n (omega arith)))

pub passed_over : (places : List ℕ) (count : ℕ) → Rises 0 count places → marks_of places (count + 1) ≡ marks_of places count ++ false ∷ []
passed_over places count r = map-range_with_len_more (is_in places) 0 count count (omega arith) ∙ ap (λ b. marks_of places count ++ b ∷ []) (none_past 0 count places count r (omega arith))

in_longer : (places : List ℕ) (count n : ℕ) → n < count → is_in (places ++ count ∷ []) n ≡ is_in places n
in_longer places count n lt = list_any-append (λ p. p == n) places (count ∷ []) ∙ last (is_in places n) count n lt
  where
    last : (b : Bool) (count n : ℕ) → n < count → (b || ((count == n) || false)) ≡ b
    last b count n lt = grind (arith, nat_tests)

in_last : (places : List ℕ) (count : ℕ) → is_in (places ++ count ∷ []) count ≡ true
in_last places count = list_any-append (λ p. p == count) places (count ∷ []) ∙ last (is_in places count) count
  where
    last : (b : Bool) (count : ℕ) → (b || ((count == count) || false)) ≡ true
    last b count = grind (arith, nat_tests)

pub noted : (places : List ℕ) (count : ℕ) → marks_of (places ++ count ∷ []) (count + 1) ≡ marks_of places count ++ true ∷ []
noted places count = map-range_with_len_more (is_in (places ++ count ∷ [])) 0 count count (omega arith)
    ∙ ap (λ b. marks_of (places ++ count ∷ []) count ++ b ∷ []) (in_last places count)
    ∙ ap (λ xs. xs ++ true ∷ []) (same_below (is_in (places ++ count ∷ [])) (is_in places) 0 count (λ n lt. in_longer places count n (omega arith)))

-- the mark there
range_at : (low count n : ℕ) → n < count → slice_get (range_with_len low count) n ≡ Some (low + n)
range_at low zero n lt = absurd (omega arith)
range_at low (suc count) zero lt = ap Some (omega arith)
range_at low (suc count) (suc n) lt = range_at (low + 1) count n (omega arith) ∙ ap Some (omega arith)

range_past : (low count n : ℕ) → count ≤ n → slice_get (range_with_len low count) n ≡ None
range_past low zero n le = refl
range_past low (suc count) zero le = absurd (omega arith)
range_past low (suc count) (suc n) le = range_past (low + 1) count n (omega arith)

pub mark_within : (places : List ℕ) (count n : ℕ) → n < count → slice_get (marks_of places count) n ≡ Some (is_in places n)
mark_within places count n lt = slice_get-map (is_in places) (range_with_len 0 count) n ∙ ap (option_map (is_in places)) (range_at 0 count n lt) ∙ ap (λ k. Some (is_in places k)) (omega arith)

pub mark_past : (places : List ℕ) (count n : ℕ) → count ≤ n → slice_get (marks_of places count) n ≡ None
mark_past places count n le = slice_get-map (is_in places) (range_with_len 0 count) n ∙ ap (option_map (is_in places)) (range_past 0 count n le)

pub mark_at : (places : List ℕ) (count n : ℕ) → Rises 0 count places → has_mark (marks_of places count) n ≡ is_in places n
mark_at places count n r = go (cases_lt n count)
  where
    go : (n < count) ⊎ (count ≤ n) → has_mark (marks_of places count) n ≡ is_in places n
    go (inl lt) = ap is_marked (mark_within places count n lt)
    go (inr le) = ap is_marked (mark_past places count n le) ∙ sym (none_past 0 count places n r le)

-- places of the same marks are the same
in_front : (p : ℕ) (places : List ℕ) → is_in (p ∷ places) p ≡ true
in_front p places = here p (is_in places p)
  where
    here : (p : ℕ) (rest : Bool) → ((p == p) || rest) ≡ true
    here p rest = grind (arith, nat_tests)

in_behind : (p : ℕ) (places : List ℕ) (n : ℕ) → p < n → is_in (p ∷ places) n ≡ is_in places n
in_behind p places n lt = there p n (is_in places n) lt
  where
    there : (p n : ℕ) (rest : Bool) → p < n → ((p == n) || rest) ≡ rest
    there p n rest lt = grind (arith, nat_tests)

front_least : (low end p : ℕ) (places : List ℕ) (n : ℕ) → Rises low end (p ∷ places) → is_in (p ∷ places) n ≡ true → p ≤ n
front_least low end p places n r e = go (cases_lt n p)
  where
    go : (n < p) ⊎ (p ≤ n) → p ≤ n
    go (inl lt) = let none : is_in (p ∷ places) n ≡ false = none_below p end (p ∷ places) n (omega arith, r.1, r.2) lt in let no : true ≡ false = sym e ∙ none in absurd (cc)
    go (inr le) = le

same_places : (low end : ℕ) (a b : List ℕ) → Rises low end a → Rises low end b → ((n : ℕ) → is_in a n ≡ is_in b n) → a ≡ b
same_places low end [] [] r t same = refl
same_places low end [] (q ∷ b) r t same = let no : false ≡ true = same q ∙ in_front q b in absurd (cc)
same_places low end (p ∷ a) [] r t same = let no : true ≡ false = sym (in_front p a) ∙ same p in absurd (cc)
same_places low end (p ∷ a) (q ∷ b) r t same =
    let up : q ≤ p = front_least low end q b p t (sym (same p) ∙ in_front p a) in
    let down : p ≤ q = front_least low end p a q r (same q ∙ in_front q b) in
    let e : p ≡ q = omega (arith, up, down) in
    let ra : Rises (suc q) end a = subst (λ n. Rises (suc n) end a) e r.2 in
    ap (λ n. n ∷ a) e ∙ ap (λ ps. q ∷ ps) (same_places (suc q) end a b ra t.2 (λ n. behind e ra n (cases_lt n (suc q))))
  where
    behind : p ≡ q → Rises (suc q) end a → (n : ℕ) → (n < suc q) ⊎ (suc q ≤ n) → is_in a n ≡ is_in b n
    behind e ra n (inl lt) = none_below (suc q) end a n ra lt ∙ sym (none_below (suc q) end b n t.2 lt)
    behind e ra n (inr le) = sym (in_behind p a n (omega (arith, e, le))) ∙ same n ∙ in_behind q b n (omega (arith, le))

-- other places, or another number of records, give other marks
unequal : (x y : ℕ) → nat_eq x y ≡ false → x ≢ y
unequal x y apart e = let even : nat_eq x y ≡ true = grind (arith, nat_tests) in absurd (cc)

pub other_count : (a b : List ℕ) (count end : ℕ) (x y : List Bool) → marks_of a count ≡ x → marks_of b end ≡ y → nat_eq count end ≡ false → x ≢ y
other_count a b count end x y p q apart same = unequal count end apart (sym (length-map-range_with_len (is_in a) 0 count) ∙ ap length (p ∙ same ∙ sym q) ∙ length-map-range_with_len (is_in b) 0 end)

pub other_places : (a b : List ℕ) (count end : ℕ) (x y : List Bool) → marks_of a count ≡ x → marks_of b end ≡ y → Rises 0 count a → Rises 0 end b → count ≡ end → a ≢ b → x ≢ y
other_places a b count end x y p q r t e other same =
    let ra : Rises 0 end a = subst (λ n. Rises 0 n a) e r in
    other (same_places 0 end a b ra t (λ n. sym (mark_at a count n r) ∙ ap (λ ms. has_mark ms n) (p ∙ same ∙ sym q) ∙ mark_at b end n t))
