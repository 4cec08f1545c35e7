-- What the lines of some entries say of each text that begins with them.
use Rattle.std.proofs.Common.{◌≡◌, ℕ, ◌+◌, ◌<◌, ◌^◌, List, [], ◌∷◌, ◌++◌, length, get_or, refl, sym, ap, subst, ◌∙◌, arith, codes}
use Rattle.std.specs.Prelude.{◌≢◌, Option, Some, None}
use Rattle.std.specs.List.{AllByRecursion}
use Rattle.std.specs.Fmt.{decimal}
use Rattle.std.proofs.lemmas.List.{append_cancel_left}
use Rattle.std.proofs.lemmas.Fmt.{decimal_injective, decimal_nonempty, digits_decimal}
use Rattle.text_lines.proofs.Decimals.{own}
use Rattle.text_lines.proofs.Fronts.{digits_same, numbers_same, no_digit-space}
use Rattle.migration_types.specs.declared.cert.First.{First}
use Rattle.migration_types.specs.declared.cert.Entry.{Entry}
use Rattle.migration_types.specs.declared.cert.Entry.TheVariants.{Nothing, Fresh, Source, Balloon}
use Rattle.migration_types.specs.declared.version.Version.{Version}
use Rattle.migration_types.specs.declared.size.Size.{Size}
use Rattle.migration_types.specs.Sessions.{IsNumber}
use Rattle.migration_types.specs.Certs.{FirstFits, EntryFits}
use Rattle.cert_text.specs.Grammar.{page_key, first_text, placed_text, source_text, entry_text, entry_line, entry_lines}
use Rattle.cert_text.specs.inner.Plain.{fresh_number}
use Rattle.cert_text.specs.inner.Limits.{number_small}

-- ---- one spelling for each entry

pub number_tells : (n m : ℕ) (r s : List ℕ) → n < 2 ^ 64 → m < 2 ^ 64 → decimal n ++ 32 ∷ r ≡ decimal m ++ 32 ∷ s → (n ≡ m) × (r ≡ s)
number_tells n m r s p q e =
    let same = numbers_same n m (32 ∷ r) (32 ∷ s) p q (no_digit-space r) (no_digit-space s) e in
    let rest = same.1 in
    (same.0, cc)

-- a dash is no number
no_dash : (n : ℕ) (rest more : List ℕ) → n < 2 ^ 64 → first_text None ++ more ≡ decimal n ++ 32 ∷ rest → ⊥
no_dash n rest more lt e =
    let same = digits_same [] (decimal n) (first_text None ++ more) (32 ∷ rest) tt (digits_decimal own n lt) (λ low high. absurd (omega arith)) (no_digit-space rest) e in
    absurd (omega (arith, ap (λ (t : List ℕ). length t) same.0, decimal_nonempty n lt))

-- behind the dashes that stand alone is nothing
pub dashes_alone : (size : Size) (text rest : List ℕ) (first : Option First) → FirstFits size first → text ≡ first_text None ++ rest → text ≡ first_text first → rest ≡ []
dashes_alone size text rest None fits e is = append_cancel_left (first_text None) rest [] (sym e ∙ is)
dashes_alone size text rest (Some first) fits e is = absurd (no_dash first.access (decimal first.see) rest (number_small size first.access fits.0) (sym e ∙ is))

-- where no dashes stand, the number of the look stands behind that of the access
pub look_at : (size : Size) (text rest : List ℕ) (found : ℕ) (first : Option First) → FirstFits size first → text ≡ first_text first → ((more : List ℕ) → text ≢ first_text None ++ more) → ((n : ℕ) (r : List ℕ) → IsNumber size n → text ≡ decimal n ++ 32 ∷ r → (found ≡ n) × (rest ≡ r)) → (see : ℕ) × IsNumber size see × (rest ≡ decimal see)
look_at size text rest found None fits e none whole = absurd (none [] e)
look_at size text rest found (Some first) fits e none whole = (first.see, fits.1, (whole first.access (decimal first.see) fits.0 e).1)

abbrev used : ℕ → ℕ → First
used access see = record { access = access; see = see }

first_same : (size : Size) (x y : Option First) → FirstFits size x → FirstFits size y → first_text x ≡ first_text y → x ≡ y
first_same size None None p q e = refl
first_same size None (Some y) p q e = absurd (no_dash y.access (decimal y.see) [] (number_small size y.access q.0) e)
first_same size (Some x) None p q e = absurd (no_dash x.access (decimal x.see) [] (number_small size x.access p.0) (sym e))
first_same size (Some x) (Some y) p q e =
    let one = number_tells x.access y.access (decimal x.see) (decimal y.see) (number_small size x.access p.0) (number_small size y.access q.0) e in
    let two = decimal_injective x.see y.see (number_small size x.see p.1) (number_small size y.see q.1) one.1 in
    ap (λ (n : ℕ). Some (used n x.see)) one.0 ∙ ap (λ (n : ℕ). Some (used y.access n)) two

placed_same : (size : Size) (n m : ℕ) (x y : Option First) → IsNumber size n → IsNumber size m → FirstFits size x → FirstFits size y → placed_text n x ≡ placed_text m y → (n ≡ m) × (x ≡ y)
placed_same size n m x y p q f g e =
    let one = number_tells n m (first_text x) (first_text y) (number_small size n p) (number_small size m q) e in
    (one.0, first_same size x y f g one.1)

text_same : (version : Version) (size : Size) (x y : Entry) → EntryFits version size x → EntryFits version size y → entry_text x ≡ entry_text y → x ≡ y
text_same version size Nothing Nothing p q e = refl
text_same version size (Fresh n) (Fresh m) p q e =
    let a = fresh_number version size n p in
    let b = fresh_number version size m q in
    ap Fresh (decimal_injective n m (number_small size n a) (number_small size m b) (append_cancel_left (codes "fresh ") (decimal n) (decimal m) e))
text_same version size (Source s n x) (Source t m y) p q e =
    let one = number_tells s t (placed_text n x) (placed_text m y) (number_small size s p.0) (number_small size t q.0) (append_cancel_left (codes "source ") (source_text s n x) (source_text t m y) e) in
    let two = placed_same size n m x y p.1 q.1 p.2 q.2 one.1 in
    rw (one.0, two.0, two.1) refl
text_same version size (Balloon n x) (Balloon m y) p q e =
    let one = placed_same size n m x y p.0 q.0 p.1 q.1 (append_cancel_left (codes "balloon ") (placed_text n x) (placed_text m y) e) in
    rw (one.0, one.1) refl
text_same version size Nothing (Source t m y) p q e = let first : 110 ≡ 115 = ap (λ (line : List ℕ). get_or line 0 0) e in absurd (omega (arith, first))
text_same version size Nothing (Balloon m y) p q e = let first : 110 ≡ 98 = ap (λ (line : List ℕ). get_or line 0 0) e in absurd (omega (arith, first))
text_same version size (Source s n x) Nothing p q e = let first : 115 ≡ 110 = ap (λ (line : List ℕ). get_or line 0 0) e in absurd (omega (arith, first))
text_same version size (Source s n x) (Balloon m y) p q e = let first : 115 ≡ 98 = ap (λ (line : List ℕ). get_or line 0 0) e in absurd (omega (arith, first))
text_same version size (Balloon n x) Nothing p q e = let first : 98 ≡ 110 = ap (λ (line : List ℕ). get_or line 0 0) e in absurd (omega (arith, first))
text_same version size (Balloon n x) (Source t m y) p q e = let first : 98 ≡ 115 = ap (λ (line : List ℕ). get_or line 0 0) e in absurd (omega (arith, first))
text_same version size Nothing (Fresh m) p q e = let first : 110 ≡ 102 = ap (λ (line : List ℕ). get_or line 0 0) e in absurd (omega (arith, first))
text_same version size (Fresh n) Nothing p q e = let first : 102 ≡ 110 = ap (λ (line : List ℕ). get_or line 0 0) e in absurd (omega (arith, first))
text_same version size (Fresh n) (Source t m y) p q e = let first : 102 ≡ 115 = ap (λ (line : List ℕ). get_or line 0 0) e in absurd (omega (arith, first))
text_same version size (Fresh n) (Balloon m y) p q e = let first : 102 ≡ 98 = ap (λ (line : List ℕ). get_or line 0 0) e in absurd (omega (arith, first))
text_same version size (Source s n x) (Fresh m) p q e = let first : 115 ≡ 102 = ap (λ (line : List ℕ). get_or line 0 0) e in absurd (omega (arith, first))
text_same version size (Balloon n x) (Fresh m) p q e = let first : 98 ≡ 102 = ap (λ (line : List ℕ). get_or line 0 0) e in absurd (omega (arith, first))

entry_same : (version : Version) (size : Size) (page : ℕ) (x y : Entry) → EntryFits version size x → EntryFits version size y → entry_line page x ≡ entry_line page y → x ≡ y
entry_same version size page x y p q e =
    let numbered : decimal page ++ 32 ∷ entry_text x ≡ decimal page ++ 32 ∷ entry_text y = append_cancel_left page_key (decimal page ++ 32 ∷ entry_text x) (decimal page ++ 32 ∷ entry_text y) e in
    let spaced : 32 ∷ entry_text x ≡ 32 ∷ entry_text y = append_cancel_left (decimal page) (32 ∷ entry_text x) (32 ∷ entry_text y) numbered in
    let texts : entry_text x ≡ entry_text y = cc in
    text_same version size x y p q texts

-- ---- entries in a row

pub entries_append : (page : ℕ) (xs ys : List Entry) → entry_lines page (xs ++ ys) ≡ entry_lines page xs ++ entry_lines (page + length xs) ys
entries_append page [] ys = ap (λ (n : ℕ). entry_lines n ys) (omega arith)
entries_append page (x ∷ xs) ys =
    let e : page + 1 + length xs ≡ page + length (x ∷ xs) = omega arith in
    ap (λ (t : List (List ℕ)). entry_line page x ∷ t) (entries_append (page + 1) xs ys ∙ ap (λ (n : ℕ). entry_lines (page + 1) xs ++ entry_lines n ys) e)

-- one entry more
pub entries_push : (page : ℕ) (xs : List Entry) (x : Entry) (more : List (List ℕ)) → entry_lines page (xs ++ x ∷ []) ++ more ≡ entry_lines page xs ++ (entry_line (page + length xs) x ∷ more)
entries_push page [] x more = ap (λ (n : ℕ). entry_line n x ∷ more) (omega arith)
entries_push page (y ∷ xs) x more =
    let e : page + 1 + length xs ≡ page + length (y ∷ xs) = omega arith in
    ap (λ (t : List (List ℕ)). entry_line page y ∷ t) (entries_push (page + 1) xs x more ∙ ap (λ (n : ℕ). entry_lines (page + 1) xs ++ (entry_line n x ∷ more)) e)

pub entries_length : (page : ℕ) (xs : List Entry) → length (entry_lines page xs) ≡ length xs
entries_length page [] = refl
entries_length page (x ∷ xs) = let n = entries_length (page + 1) xs in omega arith

respelled : (m n : ℕ) (x : Entry) (line : List ℕ) → m ≡ n → line ≡ entry_line m x → line ≡ entry_line n x
respelled m n x line e s = subst (λ (i : ℕ). line ≡ entry_line i x) e s

-- where xs has more entries than ys, the line after those of ys is an entry's
pub next_entry : (version : Version) (size : Size) (page : ℕ) (xs ys : List Entry) (rest more : List (List ℕ)) (line : List ℕ) → AllByRecursion (EntryFits version size) xs → entry_lines page xs ++ rest ≡ entry_lines page ys ++ (line ∷ more) → length ys < length xs → (entry : Entry) × EntryFits version size entry × (line ≡ entry_line (page + length ys) entry)
next_entry version size page [] ys rest more line h e lt = absurd (omega arith)
next_entry version size page (x ∷ xs) [] rest more line h e lt =
    let heads : entry_line page x ≡ line = cc in
    (x, h.0, respelled page (page + 0) x line (omega arith) (sym heads))
next_entry version size page (x ∷ xs) (y ∷ ys) rest more line h e lt =
    let tails : entry_lines (page + 1) xs ++ rest ≡ entry_lines (page + 1) ys ++ (line ∷ more) = cc in
    let n = next_entry version size (page + 1) xs ys rest more line h.1 tails (omega arith) in
    (n.0, n.1, respelled (page + 1 + length ys) (page + length (y ∷ ys)) n.0 line (omega arith) n.2)

-- where both have as many entries, these and what follows are the same
pub entries_end : (version : Version) (size : Size) (page : ℕ) (xs ys : List Entry) (rest more : List (List ℕ)) → AllByRecursion (EntryFits version size) xs → AllByRecursion (EntryFits version size) ys → entry_lines page xs ++ rest ≡ entry_lines page ys ++ more → length ys ≡ length xs → (xs ≡ ys) × (rest ≡ more)
entries_end version size page [] [] rest more h k e l = (refl, e)
entries_end version size page [] (y ∷ ys) rest more h k e l = absurd (omega arith)
entries_end version size page (x ∷ xs) [] rest more h k e l = absurd (omega arith)
entries_end version size page (x ∷ xs) (y ∷ ys) rest more h k e l =
    let tails : entry_lines (page + 1) xs ++ rest ≡ entry_lines (page + 1) ys ++ more = cc in
    let heads : entry_line page x ≡ entry_line page y = cc in
    let n = entries_end version size (page + 1) xs ys rest more h.1 k.1 tails (omega arith) in
    let one = entry_same version size page x y h.0 k.0 heads in
    let s : xs ≡ ys = n.0 in
    ((cc), n.1)
