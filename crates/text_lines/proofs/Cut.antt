-- Laws on cutting an input into lines.
use Rattle.std.proofs.Common.{◌≡◌, ℕ, zero, suc, ◌+◌, ◌<◌, ◌≤◌, ◌==◌, Bool, true, false, cond, List, [], ◌∷◌, ◌++◌, length, take, drop, refl, sym, ap, subst, ◌∙◌, append_assoc, length-append, arith}
use Rattle.std.specs.List.{onto_first, join_with_byte, AllByRecursion}
use Rattle.std.proofs.lemmas.List.Splits.{slice_split-cons_no, length-slice_split, join_with_byte-slice_split}
use Rattle.std.proofs.lemmas.Bool.Decides.{nat_tests}
use Rattle.std.proofs.lemmas.List.Sums.{sum_by-append}
use Rattle.std.proofs.lemmas.List.{append-nil, take-append-drop, take-append-le, take_at, append_cancel_left}
use Rattle.std.specs.Prelude.{Option, Some, None}
use Rattle.text_lines.specs.declared.TextFault.{TextFault}
use Rattle.text_lines.specs.Progress.{Progress, Going, Failed, CameSoFar, progress}
use Rattle.text_lines.specs.Text.{ended, lines_of, IsLine, IsCut, IsSpelling, IsUnambiguous, Begins, IsRefusalLine, IsRefusedEarly}

-- ---- cutting

pub lines_of-last : (rest : List ℕ) → IsLine rest → lines_of rest ≡ rest ∷ []
lines_of-last [] h = refl
lines_of-last (b ∷ rest) h = rw (slice_split-cons_no (λ x. x == 10) b rest (grind (arith, nat_tests, h.0)), lines_of-last rest h.1) refl

pub lines_of-first : (line after : List ℕ) → IsLine line → lines_of (line ++ 10 ∷ after) ≡ line ∷ lines_of after
lines_of-first [] after h = refl
lines_of-first (b ∷ line) after h = rw (slice_split-cons_no (λ x. x == 10) b (line ++ 10 ∷ after) (grind (arith, nat_tests, h.0)), lines_of-first line after h.1) refl

pub lines_of-ended : (lines : List (List ℕ)) (rest : List ℕ) → AllByRecursion IsLine lines → lines_of (ended lines ++ rest) ≡ lines ++ lines_of rest
lines_of-ended [] rest h = refl
lines_of-ended (line ∷ lines) rest h =
    rw (append_assoc line (10 ∷ ended lines) rest, lines_of-first line (ended lines ++ rest) h.0, lines_of-ended lines rest h.1) refl

pub ended-push : (lines : List (List ℕ)) (line after : List ℕ) → ended (lines ++ line ∷ []) ++ after ≡ ended lines ++ (line ++ 10 ∷ after)
ended-push [] line after = append_assoc line (10 ∷ []) after
ended-push (l ∷ lines) line after =
    append_assoc l (10 ∷ ended (lines ++ line ∷ [])) after ∙ ap (λ (t : List ℕ). l ++ 10 ∷ t) (ended-push lines line after) ∙ sym (append_assoc l (10 ∷ ended lines) (line ++ 10 ∷ after))

pub ended-append : (xs ys : List (List ℕ)) (rest : List ℕ) → ended (xs ++ ys) ++ rest ≡ ended xs ++ (ended ys ++ rest)
ended-append [] ys rest = refl
ended-append (x ∷ xs) ys rest =
    append_assoc x (10 ∷ ended (xs ++ ys)) rest ∙ ap (λ (t : List ℕ). x ++ 10 ∷ t) (ended-append xs ys rest) ∙ sym (append_assoc x (10 ∷ ended xs) (ended ys ++ rest))

onto_first-some : (b : ℕ) (lines : List (List ℕ)) → (z : List ℕ) × (more : List (List ℕ)) × (onto_first b lines ≡ z ∷ more)
onto_first-some b [] = (b ∷ [], [], refl)
onto_first-some b (z ∷ more) = (b ∷ z, more, refl)

cond-some : (c : Bool) (b : ℕ) (lines : List (List ℕ)) → (z : List ℕ) × (more : List (List ℕ)) × (cond c ([] ∷ lines) (onto_first b lines) ≡ z ∷ more)
cond-some true b lines = ([], lines, refl)
cond-some false b lines = onto_first-some b lines

-- an input has a line
lines_of-some : (input : List ℕ) → (z : List ℕ) × (more : List (List ℕ)) × (lines_of input ≡ z ∷ more)
lines_of-some [] = ([], [], refl)
lines_of-some (b ∷ input) = cond-some (b == 10) b (lines_of input)

pub nil_from_test : (rest : List ℕ) → true ≡ (length rest == 0) → rest ≡ []
nil_from_test [] e = refl
nil_from_test (b ∷ rest) e = absurd (grind (arith, nat_tests))

pub not_nil_from_test : (rest : List ℕ) → false ≡ (length rest == 0) → rest ≡ [] → ⊥
not_nil_from_test [] e n = absurd cc
not_nil_from_test (b ∷ rest) e n = cc

-- ---- fronts of texts

module _ {V : Type 0} (Spells : V → List (List ℕ) → Type 0) where
  pub Begins-front : (front more : List (List ℕ)) → Begins Spells (front ++ more) → Begins Spells front
  Begins-front front more h = (h.0, more ++ h.1, rw (← append_assoc front more h.1) h.2)

  pub Begins-take : (j : ℕ) (lines : List (List ℕ)) → Begins Spells lines → Begins Spells (take j lines)
  Begins-take j lines h = Begins-front (take j lines) (drop j lines) (rw take-append-drop h)

  -- each line of a text is a line
  abbrev pub Plain : Type 0
  Plain = (v : V) (lines : List (List ℕ)) → Spells v lines → AllByRecursion IsLine lines

all_front : (xs ys : List (List ℕ)) → AllByRecursion IsLine (xs ++ ys) → AllByRecursion IsLine xs
all_front [] ys h = tt
all_front (x ∷ xs) ys h = (h.0, all_front xs ys h.1)

-- a list with an empty last line, cut in two elsewhere
last_is : (xs ys : List (List ℕ)) (y : List ℕ) → xs ++ [] ∷ [] ≡ ys ++ y ∷ [] → (xs ≡ ys) × (y ≡ [])
last_is [] [] y e = (refl, cc)
last_is [] (b ∷ []) y e = absurd cc
last_is [] (b ∷ c ∷ ys) y e = absurd cc
last_is (x ∷ []) [] y e = absurd cc
last_is (x ∷ z ∷ xs) [] y e = absurd cc
last_is (x ∷ xs) (b ∷ ys) y e =
    let tails : xs ++ [] ∷ [] ≡ ys ++ y ∷ [] = cc in
    let p = last_is xs ys y tails in
    (cc, p.1)

same_cons : (x y : List ℕ) (xs ys : List (List ℕ)) → x ≡ y → xs ≡ ys → x ∷ xs ≡ y ∷ ys
same_cons x y xs ys p q = cc

front_of : (xs ys zs : List (List ℕ)) (z : List ℕ) → xs ++ [] ∷ [] ≡ ys ++ (z ∷ zs) → (more : List (List ℕ)) × (xs ≡ ys ++ more)
front_of xs [] zs z e = (xs, refl)
front_of [] (y ∷ []) zs z e = absurd cc
front_of [] (y ∷ w ∷ ys) zs z e = absurd cc
front_of (x ∷ xs) (y ∷ ys) zs z e =
    let tails : xs ++ [] ∷ [] ≡ ys ++ (z ∷ zs) = cc in
    let p = front_of xs ys zs z tails in
    let heads : x ≡ y = cc in
    (p.0, same_cons x y xs (ys ++ p.0) heads p.1)

module _ {V : Type 0} (Spells : V → List (List ℕ) → Type 0) (plain : Plain Spells) where
  -- the lines of a spelling are those of the text, and an empty one
  lines_of-spelling : (v : V) (lines : List (List ℕ)) → Spells v lines → lines_of (ended lines) ≡ lines ++ [] ∷ []
  lines_of-spelling v lines s = ap lines_of (sym (append-nil (ended lines))) ∙ lines_of-ended lines [] (plain v lines s)

  -- some text begins with the lines of a spelling that lie before the last
  Begins-spelling : (v : V) (input : List ℕ) (front : List (List ℕ)) (z : List ℕ) (more : List (List ℕ)) → IsSpelling Spells v input → lines_of input ≡ front ++ (z ∷ more) → Begins Spells front
  Begins-spelling v input front z more s e =
      let p = front_of s.0 front more z (sym (lines_of-spelling v s.0 s.1) ∙ (ap lines_of (sym s.2) ∙ e)) in
      (v, p.0, subst (Spells v) p.1 s.1)

  -- the reader refuses an ended line
  pub refused_at_line : (held : List (List ℕ)) (line after input rest : List ℕ) → Begins Spells held → (Begins Spells (held ++ line ∷ []) → ⊥) → input ≡ ended held ++ rest → IsCut rest line after → IsRefusedEarly Spells input (length held + 1)
  refused_at_line held line after input rest begins stops whole cut =
      let each = all_front held begins.1 (plain begins.0 (held ++ begins.1) begins.2) in
      let lines : lines_of input ≡ held ++ (line ∷ lines_of after) = rw (whole, lines_of-ended held rest each, cut.parts, lines_of-first line after cut.plain) refl in
      let some = lines_of-some after in
      let grouped : lines_of input ≡ (held ++ line ∷ []) ++ (some.0 ∷ some.1) = lines ∙ ap (λ (t : List (List ℕ)). held ++ (line ∷ t)) some.2 ∙ sym (append_assoc held (line ∷ []) (some.0 ∷ some.1)) in
      let len : length (held ++ line ∷ []) ≡ length held + 1 = length-append held (line ∷ []) in
      let longer : length held + 1 < length (lines_of input) = rw grouped (omega (arith, length-append (held ++ line ∷ []) (some.0 ∷ some.1), len)) in
      record {
        line = record {
          spells_nothing = λ v s. stops (Begins-spelling v input (held ++ line ∷ []) some.0 some.1 s grouped);
          within = (omega arith, omega (arith, longer));
          earlier = λ j lt. rw (lines, take-append-le j held (line ∷ lines_of after) (omega arith)) (Begins-take Spells j held begins);
          stops = λ lt b. stops (subst (Begins Spells) (ap (take (length held + 1)) grouped ∙ take_at (held ++ line ∷ []) (some.0 ∷ some.1) (length held + 1) len) b);
        };
        early = longer;
      }

  -- the reader refuses where the input ends
  pub refused_at_end : (held : List (List ℕ)) (input rest : List ℕ) → Begins Spells held → input ≡ ended held ++ rest → IsLine rest → (rest ≡ [] → (v : V) → Spells v held → ⊥) → IsRefusalLine Spells input (length held + 1)
  refused_at_end held input rest begins whole last fails =
      let each = all_front held begins.1 (plain begins.0 (held ++ begins.1) begins.2) in
      let lines : lines_of input ≡ held ++ rest ∷ [] = rw (whole, lines_of-ended held rest each, lines_of-last rest last) refl in
      let len : length (lines_of input) ≡ length held + 1 = rw lines (length-append held (rest ∷ [])) in
      record {
        spells_nothing = λ v s.
            let p = last_is s.0 held rest (sym (lines_of-spelling v s.0 s.1) ∙ (ap lines_of (sym s.2) ∙ lines)) in
            fails p.1 v (subst (Spells v) p.0 s.1);
        within = (omega arith, omega (arith, len));
        earlier = λ j lt. rw (lines, take-append-le j held (rest ∷ []) (omega arith)) (Begins-take Spells j held begins);
        stops = λ lt b. absurd (omega (arith, len));
      }

-- ---- more bytes

take_onto : (b : ℕ) (xs ys : List (List ℕ)) (j : ℕ) → take (suc j) xs ≡ take (suc j) ys → take (suc j) (onto_first b xs) ≡ take (suc j) (onto_first b ys)
take_onto b [] [] j e = refl
take_onto b [] (y ∷ ys) j e = absurd cc
take_onto b (x ∷ xs) [] j e = absurd cc
take_onto b (x ∷ xs) (y ∷ ys) j e =
    let heads : x ≡ y = cc in
    let tails : take j xs ≡ take j ys = cc in
    same_cons (b ∷ x) (b ∷ y) (take j xs) (take j ys) (ap (λ (t : List ℕ). b ∷ t) heads) tails

length_onto : (b : ℕ) (xs : List (List ℕ)) → 0 < length xs → length (onto_first b xs) ≡ length xs
length_onto b [] h = absurd (omega arith)
length_onto b (x ∷ xs) h = refl

lines_of-positive : (input : List ℕ) → 0 < length (lines_of input)
lines_of-positive input = let s = lines_of-some input in rw s.2 (omega arith)

take_by_test : (c : Bool) (b : ℕ) (xs ys : List (List ℕ)) → 0 < length xs → ((i : ℕ) → i < length xs → take i ys ≡ take i xs) → (j : ℕ) → j < length (cond c ([] ∷ xs) (onto_first b xs)) → take j (cond c ([] ∷ ys) (onto_first b ys)) ≡ take j (cond c ([] ∷ xs) (onto_first b xs))
take_by_test true b xs ys pos f zero lt = refl
take_by_test true b xs ys pos f (suc j) lt = ap (λ (t : List (List ℕ)). [] ∷ t) (f j (omega arith))
take_by_test false b xs ys pos f zero lt = refl
take_by_test false b xs ys pos f (suc j) lt = take_onto b ys xs j (f (suc j) (omega (arith, length_onto b xs pos)))

-- more bytes leave the lines before the last
pub take_lines-append : (input more : List ℕ) (j : ℕ) → j < length (lines_of input) → take j (lines_of (input ++ more)) ≡ take j (lines_of input)
take_lines-append [] more zero lt = refl
take_lines-append [] more (suc j) lt = absurd (omega arith)
take_lines-append (b ∷ input) more j lt = take_by_test (b == 10) b (lines_of input) (lines_of (input ++ more)) (lines_of-positive input) (λ i h. take_lines-append input more i h) j lt

length_lines-append : (input more : List ℕ) → length (lines_of input) ≤ length (lines_of (input ++ more))
length_lines-append input more = omega (arith, length-slice_split (λ b. b == 10) input, length-slice_split (λ b. b == 10) (input ++ more), sum_by-append (λ b. cond (b == 10) 1 0) input more)

split_at : (j : ℕ) (lines : List (List ℕ)) → j < length lines → (z : List ℕ) × (more : List (List ℕ)) × (lines ≡ take j lines ++ (z ∷ more))
split_at j [] lt = absurd (omega arith)
split_at zero (x ∷ xs) lt = (x, xs, refl)
split_at (suc j) (x ∷ xs) lt = let s = split_at j xs (omega arith) in (s.0, s.1, ap (λ (t : List (List ℕ)). x ∷ t) s.2)

-- so the refusal line stays, whatever follows
pub early_append : {V : Type 0} (Spells : V → List (List ℕ) → Type 0) (plain : Plain Spells) (input more : List ℕ) (k : ℕ) → IsRefusedEarly Spells input k → IsRefusedEarly Spells (input ++ more) k
early_append Spells plain input more k r =
    let longer = length_lines-append input more in
    let early : k < length (lines_of (input ++ more)) = omega (arith, r.early) in
    let same = λ (j : ℕ) (h : j ≤ k). take_lines-append input more j (omega (arith, r.early)) in
    let stops = λ (b : Begins Spells (take k (lines_of (input ++ more)))). r.line.stops r.early (subst (Begins Spells) (same k (omega arith)) b) in
    let parts = split_at k (lines_of (input ++ more)) early in
    record {
      line = record {
        spells_nothing = λ v s. stops (Begins-spelling Spells plain v (input ++ more) (take k (lines_of (input ++ more))) parts.0 parts.1 s parts.2);
        within = (r.line.within.0, omega arith);
        earlier = λ j lt. subst (Begins Spells) (sym (same j (omega arith))) (r.line.earlier j lt);
        stops = λ h b. stops b;
      };
      early = early;
    }

-- a reader that failed stands for whatever begins with what it failed at
pub still_failed : {V : Type 0} (Spells : V → List (List ℕ) → Type 0) (plain : Plain Spells) (input more : List ℕ) (p : Progress) (fault : TextFault) → p ≡ Failed fault → CameSoFar Spells input p → CameSoFar Spells (input ++ more) p
still_failed Spells plain input more (Failed f) fault e came = (came.0, early_append Spells plain input more f.line came.1)
still_failed Spells plain input more (Going lines rest) fault e came = absurd cc

pub failed_from : (o : Option TextFault) (lines : List (List ℕ)) (rest : List ℕ) (fault : TextFault) → o ≡ Some fault → progress o lines rest ≡ Failed fault
failed_from (Some f) lines rest fault e = ap Failed cc
failed_from None lines rest fault e = absurd cc

-- where no text begins another, no spelling does
pub one_spelling : {V : Type 0} (Spells : V → List (List ℕ) → Type 0) (plain : Plain Spells) → ((v w : V) (a more : List (List ℕ)) → Spells v a → Spells w (a ++ more) → (v ≡ w) × (more ≡ [])) → (v w : V) (s t more : List ℕ) → IsSpelling Spells v s → IsSpelling Spells w t → t ≡ s ++ more → (v ≡ w) × (more ≡ [])
one_spelling Spells plain law v w s t more p q e =
    let lines : q.0 ++ [] ∷ [] ≡ p.0 ++ lines_of more =
    sym (lines_of-spelling Spells plain w q.0 q.1) ∙ (ap lines_of (sym q.2 ∙ (e ∙ ap (λ (x : List ℕ). x ++ more) p.2)) ∙ lines_of-ended p.0 more (plain v p.0 p.1)) in
    let some = lines_of-some more in
    let front = front_of q.0 p.0 some.1 some.0 (lines ∙ ap (λ (x : List (List ℕ)). p.0 ++ x) some.2) in
    let one = law v w p.0 front.0 p.1 (subst (Spells w) front.1 q.1) in
    let rest : front.0 ++ [] ∷ [] ≡ lines_of more = append_cancel_left p.0 (front.0 ++ [] ∷ []) (lines_of more) (sym (append_assoc p.0 front.0 ([] ∷ [])) ∙ (ap (λ (x : List (List ℕ)). x ++ [] ∷ []) (sym front.1) ∙ lines)) in
    let alone : [] ∷ [] ≡ lines_of more = ap (λ (x : List (List ℕ)). x ++ [] ∷ []) (sym one.1) ∙ rest in
    (one.0, sym (ap (join_with_byte 10) alone ∙ join_with_byte-slice_split 10 more))

-- a grammar is unambiguous where no text's lines begin another's, and a value's lines are given
pub unambiguous : {V : Type 0} (Spells : V → List (List ℕ) → Type 0) (plain : Plain Spells) → ((v w : V) (a more : List (List ℕ)) → Spells v a → Spells w (a ++ more) → (v ≡ w) × (more ≡ [])) → ((v : V) (a b : List (List ℕ)) → Spells v a → Spells v b → a ≡ b) → IsUnambiguous Spells
unambiguous Spells plain law given = record {
  none_begins_another = λ v w input more p q. (one_spelling Spells plain law v w input (input ++ more) more p q refl).1;
  one_value = λ v w input p q. (one_spelling Spells plain law v w input input [] p q (sym (append-nil input))).0;
  one_spelling = λ v a b p q. p.2 ∙ (ap ended (given v p.0 q.0 p.1 q.1) ∙ sym q.2);
}
