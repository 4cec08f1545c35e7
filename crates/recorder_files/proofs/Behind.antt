-- A read behind what a buffer holds.
use Rattle.std.proofs.Common.{◌≡◌, ℕ, ◌+◌, ◌≤◌, List, [], ◌++◌, length, take, drop, ap, ◌∙◌, length-append, length-take-le, le_refl, drop_at, arith}
use Rattle.std.specs.Prelude.{Option}
use Rattle.std.specs.Io.KnownBytes.{Consumes, IsAtEnd, Keeps}
use Rattle.std.proofs.KnownBytes.{Consumes-nil, Consumes-kept, Consumes-trans}
use Rattle.std.proofs.lemmas.Slice.{take-put_mid_below}
use borrow.Rule.Slice.PartMut.{put_mid, post_of}
use lib.Seq.{take-add, take-append-le}
use Rattle.recorder_files.specs.inner.Finding.{ReadsBehind}

front_grown : (at room n : ℕ) (xs ys : List ℕ) → at ≤ length xs → n ≤ length ys → take (at + n) (put_mid at room xs ys) ≡ take at xs ++ take n ys
front_grown at room n xs ys within fits =
    let new = put_mid at room xs ys in
    let after = post_of at room xs in
    let front : take at new ≡ take at xs = take-put_mid_below at room xs ys at (le_refl at) within in
    let back : take n (drop at new) ≡ take n ys = ap (take n) (drop_at (take at xs) (ys ++ after) at (length-take-le at xs within)) ∙ take-append-le n ys after fits in
    take-add at n new ∙ (ap (λ (l : List ℕ). l ++ take n (drop at new)) front ∙ ap (λ (l : List ℕ). take at xs ++ l) back)

-- a read behind the front of a buffer, by which nothing was lost before
pub reads_behind : (a b c : Option (List ℕ)) (old now ys : List ℕ) (kept room n : ℕ) → Keeps a b → take kept now ≡ take kept old → kept + room ≡ length now → length ys ≡ room → n ≤ length ys → Consumes b c (take n ys) → (n ≡ 0 → IsAtEnd c) → ReadsBehind a c old (put_mid kept room now ys) kept (kept + n)
reads_behind a b c old now ys kept room n same front whole full fits consumed at_end = record {
  bytes = take n ys;
  front = front_grown kept room n now ys (omega (arith, whole)) fits ∙ ap (λ (t : List ℕ). t ++ take n ys) front;
  consumed = Consumes-trans a b c [] (take n ys) (Consumes-kept a a b [] (Consumes-nil a) same) consumed;
  within = omega (arith, fits, length-append (take kept now) (ys ++ post_of kept room now), length-append ys (post_of kept room now), length-take-le kept now (omega (arith, whole)));
  more = omega arith;
  at_end = λ none. at_end (omega (arith, none));
}
