-- Files that stop being a recorder's at a line.
use Rattle.std.proofs.Common.{◌≡◌, ℕ, suc, ◌+◌, ◌<◌, ◌≤◌, ◌^◌, ◌⊎◌, inl, inr, List, [], ◌∷◌, ◌++◌, length, Option, Some, None, refl, sym, ap, subst, ◌∙◌, append_assoc, arith}
use Rattle.std.specs.Prelude.{IfSome, codes}
use Rattle.std.specs.List.{AllByRecursion}
use Rattle.std.specs.Fmt.{decimal}
use Rattle.std.specs.Str.Parse.{AllDigits}
use Rattle.std.specs.Io.KnownBytes.{Consumes}
use Rattle.std.proofs.lemmas.Fmt.{digits_decimal, decimal_injective}
use Rattle.std.proofs.lemmas.List.{append-nil}
use Rattle.std.proofs.lemmas.Str.Parse.{digit_from_value}
use Rattle.text_lines.specs.Text.{ended, IsLine}
use Rattle.text_lines.proofs.Cut.{ended-push}
use Rattle.text_lines.proofs.Decimals.{own}
use Rattle.text_lines.proofs.Fronts.{numbers_same, no_digit-space}
use Rattle.recorder_files.specs.declared.lines.Party.{Party}
use Rattle.recorder_files.specs.declared.lines.Last.{Last}
use Rattle.recorder_files.specs.declared.lines.Last.TheVariants.{End, Next, Lost}
use Rattle.recorder_files.specs.Files.{last_number, party_word, opening_line, record_line, last_line, IsLast}
use Rattle.recorder_files.specs.Gathered.{Numbered}
use Rattle.recorder_files.specs.Said.{longest_line, IsInside, IsWritten, Stops, HasLines, Said, RiseTo, last_lines, records_onto, LinesSay, IsUnbegun, FileSays, IsRefusedAt}
use Rattle.recorder_files.specs.inner.Finding.{AreRead, IsLong}

-- ---- bytes have their lines in one way

pub same_line : (a b x y : List ℕ) → AllByRecursion IsInside a → AllByRecursion IsInside b → a ++ 10 ∷ x ≡ b ++ 10 ∷ y → (a ≡ b) × (x ≡ y)
same_line [] [] x y i j e = (refl, cc)
same_line [] (c ∷ b) x y i j e = let is : c ≡ 10 = cc in absurd (j.0.0 is)
same_line (c ∷ a) [] x y i j e = let is : c ≡ 10 = cc in absurd (i.0.0 is)
same_line (c ∷ a) (d ∷ b) x y i j e =
    let heads : c ≡ d = cc in
    let tails : a ++ 10 ∷ x ≡ b ++ 10 ∷ y = cc in
    let rest = same_line a b x y i.1 j.1 tails in
    let lines = rest.0 in
    (cc, rest.1)

pub not_unwritten : (a x line more : List ℕ) → AllByRecursion IsInside a → AllByRecursion IsInside line → Stops more → a ++ 10 ∷ x ≡ line ++ more → ⊥
not_unwritten [] x [] more i j s e = let stops : 10 ≡ 0 = subst Stops (sym e) s in absurd (omega (arith, stops))
not_unwritten [] x (c ∷ line) more i j s e = let is : c ≡ 10 = cc in absurd (j.0.0 is)
not_unwritten (c ∷ a) x [] more i j s e = let stops : c ≡ 0 = subst Stops (sym e) s in absurd (i.0.1 stops)
not_unwritten (c ∷ a) x (d ∷ line) more i j s e = let tails : a ++ 10 ∷ x ≡ line ++ more = cc in not_unwritten a x line more i.1 j.1 s tails

pub record GoesOn (held : List (List ℕ)) (tail : List ℕ) (lines : List (List ℕ)) : Type 0 where
  pub more : List (List ℕ)
  pub all : lines ≡ held ++ more
  pub has : HasLines tail more

pub goes_on : (held : List (List ℕ)) (tail bytes : List ℕ) (lines : List (List ℕ)) → AllByRecursion IsWritten held → HasLines bytes lines → bytes ≡ ended held ++ tail → GoesOn held tail lines
goes_on [] tail bytes lines w has e = record { more = lines; all = refl; has = subst (λ (b : List ℕ). HasLines b lines) e has }
goes_on (l ∷ held) tail bytes [] w has e =
    let u = has.unwritten in
    absurd (not_unwritten l (ended held ++ tail) u.line u.more w.0.inside u.written.inside u.stops (sym (append_assoc l (10 ∷ ended held) tail) ∙ (sym e ∙ (has.parts ∙ u.parts))))
goes_on (l ∷ held) tail bytes (m ∷ lines) w has e =
    let both = same_line l m (ended held ++ tail) (ended lines ++ has.rest) w.0.inside has.written.0.inside (sym (append_assoc l (10 ∷ ended held) tail) ∙ (sym e ∙ (has.parts ∙ append_assoc m (10 ∷ ended lines) has.rest))) in
    let rest = goes_on held tail (ended lines ++ has.rest) lines w.1 (record { rest = has.rest; parts = refl; written = has.written.1; unwritten = has.unwritten }) (sym both.1) in
    let first = both.0 in
    let others = rest.all in
    record { more = rest.more; all = cc; has = rest.has }

-- ---- a line that is too long

record NextInside (more : List ℕ) : Type 0 where
  pub byte : ℕ
  pub after : List ℕ
  pub parts : more ≡ byte ∷ after
  pub inside : IsInside byte

next_inside : (line l other more : List ℕ) → AllByRecursion IsInside line → line ++ other ≡ l ++ more → length l < length line → NextInside more
next_inside [] l other more i e lt = absurd (omega arith)
next_inside (c ∷ line) [] other more i e lt = record { byte = c; after = line ++ other; parts = sym e; inside = i.0 }
next_inside (c ∷ line) (d ∷ l) other more i e lt = let tails : line ++ other ≡ l ++ more = cc in next_inside line l other more i.1 tails (omega arith)

long_none : (line other : List ℕ) (lines : List (List ℕ)) → AllByRecursion IsInside line → suc longest_line ≤ length line → HasLines (line ++ other) lines → ⊥
long_none line other [] i long has =
    let u = has.unwritten in
    let next = next_inside line u.line other u.more i (has.parts ∙ u.parts) (omega (arith, u.written.short, long)) in
    next.inside.1 (subst Stops next.parts u.stops)
long_none line other (m ∷ lines) i long has =
    let short = has.written.0.short in
    let next = next_inside line m other (10 ∷ (ended lines ++ has.rest)) i (has.parts ∙ append_assoc m (10 ∷ ended lines) has.rest) (omega (arith, short, long)) in
    let parts = next.parts in
    let is : next.byte ≡ 10 = cc in
    next.inside.0 is

-- ---- where lines are refused

-- what lines say
abbrev pub LinesTell : Party → List (List ℕ) → Option Said → Type 0
LinesTell party lines None = IsUnbegun lines
LinesTell party lines (Some s) = LinesSay party lines s

tell_of : (party : Party) (bytes : List ℕ) (x : Option Said) (P : Type 0) → FileSays party bytes x → ((lines : List (List ℕ)) → HasLines bytes lines → LinesTell party lines x → P) → P
tell_of party bytes None P (lines, has, is) f = f lines has is
tell_of party bytes (Some s) P (lines, has, is) f = f lines has is

pub says_lines : (party : Party) (lines : List (List ℕ)) (x : Option Said) → AllByRecursion IsWritten lines → LinesTell party lines x → FileSays party (ended lines) x
says_lines party lines None w is = (lines, record { rest = []; parts = sym (append-nil (ended lines)); written = w; unwritten = record { line = []; more = []; parts = refl; written = record { inside = tt; short = omega arith }; stops = tt } }, is)
says_lines party lines (Some s) w is = (lines, record { rest = []; parts = sym (append-nil (ended lines)); written = w; unwritten = record { line = []; more = []; parts = refl; written = record { inside = tt; short = omega arith }; stops = tt } }, is)

inside_plain : (line : List ℕ) → AllByRecursion IsInside line → IsLine line
inside_plain [] i = tt
inside_plain (b ∷ line) i = (i.0.0, inside_plain line i.1)

pub front_written : (P : List ℕ → Type 0) (xs ys : List (List ℕ)) → AllByRecursion P (xs ++ ys) → AllByRecursion P xs
front_written P [] ys a = tt
front_written P (x ∷ xs) ys a = (a.0, front_written P xs ys a.1)

back_written : (P : List ℕ → Type 0) (xs ys : List (List ℕ)) → AllByRecursion P (xs ++ ys) → AllByRecursion P ys
back_written P [] ys a = a
back_written P (x ∷ xs) ys a = back_written P xs ys a.1

known_line : (known rest : Option (List ℕ)) (lines : List (List ℕ)) (line bytes : List ℕ) → Consumes known rest (ended (lines ++ line ∷ []) ++ bytes) → (after : List ℕ) × IfSome known (λ xs. ended lines ++ (line ++ ((10 ∷ []) ++ after)) ≡ xs)
known_line None rest lines line bytes c = ([], tt)
known_line (Some xs) None lines line bytes c = absurd c
known_line (Some xs) (Some ys) lines line bytes c = (bytes ++ ys, sym (ended-push lines line (bytes ++ ys)) ∙ (sym (append_assoc (ended (lines ++ line ∷ [])) bytes ys) ∙ sym c))

-- a line that no lines go on with
pub line_refused : (party : Party) (known rest : Option (List ℕ)) (lines : List (List ℕ)) (line bytes : List ℕ) (number : ℕ) (Is : List ℕ → Type 0) (said : Option Said) → number ≡ length lines + 1 → AreRead known rest bytes (lines ++ line ∷ []) → LinesTell party lines said → Is line → ((more : List (List ℕ)) (x : Option Said) → LinesTell party (lines ++ line ∷ more) x → ⊥) → IsRefusedAt party known number Is
line_refused party known rest lines line bytes number Is said counted read before is none =
    let at = known_line known rest lines line bytes read.consumed in
    let own_line = back_written IsWritten lines (line ∷ []) read.written in
    record {
      lines = lines;
      line = line;
      end = 10 ∷ [];
      after = at.0;
      is_known = at.1;
      counted = counted;
      plain = inside_plain line own_line.0.inside;
      ends = (refl, refl);
      is = is;
      said = said;
      before = says_lines party lines said (front_written IsWritten lines (line ∷ []) read.written) before;
      refused = λ other x says. tell_of party (ended lines ++ (line ++ 10 ∷ other)) x ⊥ says (λ all has tells.
          let on = goes_on (lines ++ line ∷ []) other (ended lines ++ (line ++ 10 ∷ other)) all read.written has (sym (ended-push lines line other)) in
          none on.more x (subst (λ (ls : List (List ℕ)). LinesTell party ls x) (on.all ∙ append_assoc lines (line ∷ []) on.more) tells));
    }

-- a line that is too long
pub long_refused : (party : Party) (known : Option (List ℕ)) (lines : List (List ℕ)) (number : ℕ) (said : Option Said) → number ≡ length lines + 1 → IsLong known lines → LinesTell party lines said → IsRefusedAt party known number (λ _. Unit {0})
long_refused party known lines number said counted long before = record {
  lines = lines;
  line = long.line;
  end = [];
  after = long.after;
  is_known = long.is_known;
  counted = counted;
  plain = inside_plain long.line long.inside;
  ends = tt;
  is = tt;
  said = said;
  before = says_lines party lines said long.written before;
  refused = λ other x says. tell_of party (ended lines ++ (long.line ++ other)) x ⊥ says (λ all has tells.
      let on = goes_on lines (long.line ++ other) (ended lines ++ (long.line ++ other)) all long.written has refl in
      long_none long.line other on.more long.inside long.long on.has);
}

-- ---- which line comes next

first_small : (ds : List ℕ) (c : ℕ) (rest text : List ℕ) → AllDigits 10 ds → ds ++ 32 ∷ text ≡ c ∷ rest → c ≤ 57
first_small [] c rest text a e = let is : c ≡ 32 = cc in omega (arith, is)
first_small (d ∷ ds) c rest text a e = let is : c ≡ d = cc in let r = digit_from_value d a.0 in omega (arith, is, r)

small_number : (n : ℕ) → n ≤ last_number → n < 2 ^ 64
small_number n le = omega arith

-- no last line is a record's
pub not_record : (left : Last) (n : ℕ) (text : List ℕ) → n ≤ last_number → last_line left ≡ record_line n text → ⊥
not_record (End count) n text le e = let r = first_small (decimal n) 101 _ text (digits_decimal own n (small_number n le)) (sym e) in absurd (omega (arith, r))
not_record (Next count) n text le e = let r = first_small (decimal n) 110 _ text (digits_decimal own n (small_number n le)) (sym e) in absurd (omega (arith, r))
not_record (Lost errno) n text le e = let r = first_small (decimal n) 108 _ text (digits_decimal own n (small_number n le)) (sym e) in absurd (omega (arith, r))

pub same_record : (n m : ℕ) (t u : List ℕ) → n ≤ last_number → m ≤ last_number → record_line n t ≡ record_line m u → n ≡ m
same_record n m t u p q e = (numbers_same n m (32 ∷ t) (32 ∷ u) (small_number n p) (small_number m q) (no_digit-space t) (no_digit-space u) e).0

pub cancel : (xs ys zs : List ℕ) → xs ++ ys ≡ xs ++ zs → ys ≡ zs
cancel [] ys zs e = e
cancel (x ∷ xs) ys zs e = cancel xs ys zs cc

pub same_text : (n m : ℕ) (t u : List ℕ) → n ≤ last_number → m ≤ last_number → record_line n t ≡ record_line m u → t ≡ u
same_text n m t u p q e = let both = (numbers_same n m (32 ∷ t) (32 ∷ u) (small_number n p) (small_number m q) (no_digit-space t) (no_digit-space u) e).1 in cc

-- an opening's line tells its numbers
pub same_numbers : (party other : Party) (f g m n : ℕ) → other ≡ party → f ≤ last_number → g ≤ last_number → m ≤ last_number → n ≤ last_number → opening_line other f m ≡ opening_line party g n → (f ≡ g) × (m ≡ n)
same_numbers party other f g m n same p q r t e =
    let own_line : opening_line party f m ≡ opening_line party g n = subst (λ (o : Party). opening_line o f m ≡ opening_line party g n) same e in
    let both = cancel (codes "log " ++ (party_word party ++ 32 ∷ [])) (record_line f (decimal m)) (record_line g (decimal n)) (spread party f m ∙ (own_line ∙ sym (spread party g n))) in
    (same_record f g (decimal m) (decimal n) p q both, decimal_injective m n (small_number m r) (small_number n t) (same_text f g (decimal m) (decimal n) p q both))
  where
    spread : (party : Party) (f m : ℕ) → (codes "log " ++ (party_word party ++ 32 ∷ [])) ++ record_line f (decimal m) ≡ opening_line party f m
    spread party f m = append_assoc (codes "log ") (party_word party ++ 32 ∷ []) (record_line f (decimal m)) ∙ ap (λ (w : List ℕ). codes "log " ++ w) (append_assoc (party_word party) (32 ∷ []) (record_line f (decimal m)))

-- behind some records comes another, or the last line
abbrev pub NextIs : ℕ → List ℕ → List (List ℕ) → ℕ → Option Last → Type 0
NextIs low line more next last =
    ((n : ℕ) × (text : List ℕ) × (low ≤ n) × (n ≤ last_number) × (line ≡ record_line n text))
    ⊎ ((left : Last) × (last ≡ Some left) × (line ≡ last_line left) × (more ≡ []) × (next ≡ low))

pub next_is : (came records : Numbered (List ℕ)) (first low next : ℕ) (last : Option Last) (line : List ℕ) (more : List (List ℕ)) → RiseTo first came low → RiseTo first records next → records_onto records (last_lines last) ≡ records_onto came [] ++ line ∷ more → NextIs low line more next last
next_is [] [] first low next None line more r s e = absurd cc
next_is [] [] first low next (Some left) line more r s e = inr (left, refl, cc, cc, s ∙ sym r)
next_is [] (a ∷ records) first low next last line more r s e = inl (a.0, a.1, subst (λ (k : ℕ). k ≤ a.0) (sym r) s.0, s.1, cc)
next_is (a ∷ came) [] first low next None line more r s e = absurd cc
next_is (a ∷ came) [] first low next (Some left) line more r s e = absurd (not_record left a.0 a.1 r.1 cc)
next_is (a ∷ came) (b ∷ records) first low next last line more r s e =
    let heads : record_line b.0 b.1 ≡ record_line a.0 a.1 = cc in
    let tails : records_onto records (last_lines last) ≡ records_onto came [] ++ line ∷ more = cc in
    let same = same_record b.0 a.0 b.1 a.1 s.1 r.1 heads in
    next_is came records (suc a.0) low next last line more r.2 (subst (λ (k : ℕ). RiseTo (suc k) records next) same s.2) tails

-- two last lines are one only where they say the same
pub same_last : (a b : Last) → IsLast a → IsLast b → last_line a ≡ last_line b → a ≡ b
same_last (End c) (End d) p q e = ap End (decimal_injective c d (small_number c p) (small_number d q) cc)
same_last (Next c) (Next d) p q e = ap Next (decimal_injective c d (small_number c p) (small_number d q) cc)
same_last (Lost c) (Lost d) p q e = ap Lost (decimal_injective c d (small_number c p) (small_number d q) cc)
same_last (End c) (Next d) p q e = let m : ℕ = 101 in let n : ℕ = 110 in let t : m ≡ n = cc in absurd (omega (arith, t))
same_last (End c) (Lost d) p q e = let m : ℕ = 101 in let n : ℕ = 108 in let t : m ≡ n = cc in absurd (omega (arith, t))
same_last (Next c) (End d) p q e = let m : ℕ = 110 in let n : ℕ = 101 in let t : m ≡ n = cc in absurd (omega (arith, t))
same_last (Next c) (Lost d) p q e = let m : ℕ = 110 in let n : ℕ = 108 in let t : m ≡ n = cc in absurd (omega (arith, t))
same_last (Lost c) (End d) p q e = let m : ℕ = 108 in let n : ℕ = 101 in let t : m ≡ n = cc in absurd (omega (arith, t))
same_last (Lost c) (Next d) p q e = let m : ℕ = 108 in let n : ℕ = 110 in let t : m ≡ n = cc in absurd (omega (arith, t))
