-- A read behind the filled front of a buffer.
use Rattle.std.proofs.Common.{◌≡◌, ℕ, ◌+◌, ◌≤◌, Bool, List, ◌++◌, Option, length, take, drop, sym, ap, ◌∙◌, subst, le_refl, drop_at, length-append, length-take-le, arith}
use Rattle.std.proofs.lemmas.Slice.{take-put_mid_below}
use Rattle.command_texts.specs.inner.Takings.{Fills}
use Rattle.std.specs.Io.KnownBytes.{Consumes, Keeps}
use Rattle.std.proofs.KnownBytes.{Consumes-trans, Consumes-kept}
use borrow.Rule.Slice.PartMut.{put_mid, post_of}
use lib.Seq.{take-add, take-append-le, take-take}

front_grown : (at room n : ℕ) (xs ys : List ℕ) → at ≤ length xs → n ≤ length ys → take at xs ++ take n ys ≡ take (at + n) (put_mid at room xs ys)
front_grown at room n xs ys within fits =
    let new = put_mid at room xs ys in
    let after = post_of at room xs in
    let front : take at new ≡ take at xs = take-put_mid_below at room xs ys at (le_refl at) within in
    let back : take n (drop at new) ≡ take n ys = ap (take n) (drop_at (take at xs) (ys ++ after) at (length-take-le at xs within)) ∙ take-append-le n ys after fits in
    sym (take-add at n new ∙ (ap (λ (l : List ℕ). l ++ take n (drop at new)) front ∙ ap (λ (l : List ℕ). take at xs ++ l) back))

-- so many bytes more were read
pub read_behind : (a b c : Option (List ℕ)) (at room n : ℕ) (xs ys : List ℕ) → at ≤ length xs → n ≤ length ys → Consumes a b (take at xs) → Consumes b c (take n ys) → Consumes a c (take (at + n) (put_mid at room xs ys))
read_behind a b c at room n xs ys within fits yet more = subst (Consumes a c) (front_grown at room n xs ys within fits) (Consumes-trans a b c (take at xs) (take n ys) yet more)

-- nothing was read
pub read_nothing : (a b c : Option (List ℕ)) (at room : ℕ) (xs ys : List ℕ) → at ≤ length xs → Consumes a b (take at xs) → Keeps b c → Consumes a c (take at (put_mid at room xs ys))
read_nothing a b c at room xs ys within yet same = subst (Consumes a c) (sym (take-put_mid_below at room xs ys at (le_refl at) within)) (Consumes-kept a b c (take at xs) yet same)

-- the front of a buffer that was written back
pub front_of : (n len : ℕ) (xs rest : List ℕ) → n ≤ length xs → n ≤ len → take n (take len (xs ++ rest)) ≡ take n xs
front_of n len xs rest within fits = take-take n len (xs ++ rest) fits ∙ take-append-le n xs rest within

-- a buffer that was filled and written back
pub fills_written : (a b : Option (List ℕ)) (xs rest : List ℕ) (len count : ℕ) (ended : Bool) → length xs ≡ len → Fills a b xs count ended → Fills a b (take len (xs ++ rest)) count ended
fills_written a b xs rest len count ended same filled = record {
  within = omega (arith, filled.within, length-take-le len (xs ++ rest) (omega (arith, length-append xs rest)));
  consumed = subst (Consumes a b) (sym (front_of count len xs rest filled.within (omega (arith, filled.within)))) filled.consumed;
  at_end = filled.at_end;
}
