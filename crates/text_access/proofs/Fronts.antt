-- What outputs gain.
use Rattle.std.proofs.Common.{◌≡◌, ◌∙◌, ℕ, ◌+◌, ◌-◌, ◌<◌, List, [], ◌++◌, length, take, drop, sym, ap, subst, inl, inr, Option, append_assoc, append-nil, arith, take_all, length-append, length-drop, length-take}
use Rattle.std.specs.Io.KnownBytes.{Appends, Keeps}
use Rattle.std.proofs.KnownBytes.{Appends-kept, Appends-nil, Appends-trans}
use Rattle.std.proofs.lemmas.List.{take-append-drop}
use lib.Seq.{take-add}
use Rattle.text_access.specs.Written.{AppendsFront, AppendsPart, Gains, MayTell}

pub kept : (a b : Option (List ℕ)) → Keeps a b → Appends a b []
kept a b k = Appends-kept a a b [] (Appends-nil a) k

-- ---- a front of bytes

pub all_of : (a b : Option (List ℕ)) (bytes : List ℕ) → Appends a b bytes → AppendsFront a b bytes
all_of a b bytes all = record { front = bytes; back = []; parts = sym (append-nil bytes); written = all }

pub some_of : (a b : Option (List ℕ)) (count : ℕ) (bytes : List ℕ) → Appends a b (take count bytes) → AppendsFront a b bytes
some_of a b count bytes some = record { front = take count bytes; back = drop count bytes; parts = sym (take-append-drop count bytes); written = some }

-- so many more were written
pub some_more : (a b c : Option (List ℕ)) (count n : ℕ) (bytes : List ℕ) → Appends a b (take count bytes) → Appends b c (take n (take (length bytes - count) (drop count bytes))) → Appends a c (take (count + n) bytes)
some_more a b c count n bytes some more =
    let rest : take (length bytes - count) (drop count bytes) ≡ drop count bytes = take_all (length bytes - count) (drop count bytes) (omega (arith, length-drop count bytes)) in
    subst (Appends a c) (sym (take-add count n bytes)) (Appends-trans a b c (take count bytes) (take n (drop count bytes)) some (subst (λ (l : List ℕ). Appends b c (take n l)) rest more))

-- then a write failed
pub failed : (a b c : Option (List ℕ)) (count : ℕ) (bytes : List ℕ) → Appends a b (take count bytes) → Keeps b c → AppendsFront a c bytes
failed a b c count bytes some same = some_of a c count bytes (Appends-kept a b c (take count bytes) some same)

-- not all of them were written
pub part_of : (a b : Option (List ℕ)) (count : ℕ) (bytes : List ℕ) → count < length bytes → Appends a b (take count bytes) → AppendsPart a b bytes
unfolding some_of
part_of a b count bytes lt some =
    let is_short : length (take count bytes) < length bytes = omega (arith, lt, length-take count bytes) in
    record { written = some_of a b count bytes some; is_short = is_short }

-- of two texts one after the other
pub front_before : (a b : Option (List ℕ)) (xs ys : List ℕ) → AppendsFront a b xs → AppendsFront a b (xs ++ ys)
front_before a b xs ys h = record { front = h.front; back = h.back ++ ys; parts = ap (λ (l : List ℕ). l ++ ys) h.parts ∙ append_assoc h.front h.back ys; written = h.written }

pub front_behind : (a b c : Option (List ℕ)) (xs ys : List ℕ) → Appends a b xs → AppendsFront b c ys → AppendsFront a c (xs ++ ys)
front_behind a b c xs ys all h = record { front = xs ++ h.front; back = h.back; parts = ap (λ (l : List ℕ). xs ++ l) h.parts ∙ sym (append_assoc xs h.front h.back); written = Appends-trans a b c xs h.front all h.written }

pub part_before : (a b : Option (List ℕ)) (xs ys : List ℕ) → AppendsPart a b xs → AppendsPart a b (xs ++ ys)
unfolding front_before
part_before a b xs ys h =
    let is_short : length h.written.front < length (xs ++ ys) = omega (arith, h.is_short, length-append xs ys) in
    record { written = front_before a b xs ys h.written; is_short = is_short }

pub part_behind : (a b c : Option (List ℕ)) (xs ys : List ℕ) → Appends a b xs → AppendsPart b c ys → AppendsPart a c (xs ++ ys)
unfolding front_behind
part_behind a b c xs ys all h =
    let is_short : length (xs ++ h.written.front) < length (xs ++ ys) = omega (arith, h.is_short, length-append xs ys, length-append xs h.written.front) in
    record { written = front_behind a b c xs ys all h.written; is_short = is_short }

pub front_kept : (a b c : Option (List ℕ)) (bytes : List ℕ) → Keeps a b → AppendsFront b c bytes → AppendsFront a c bytes
front_kept a b c bytes k h = front_behind a b c [] bytes (kept a b k) h

-- ---- what was there stays in front

pub same_gains : (a : Option (List ℕ)) → Gains a a
same_gains a = ([], Appends-nil a)

pub kept_gains : (a b : Option (List ℕ)) → Keeps a b → Gains a b
kept_gains a b k = ([], kept a b k)

pub front_gains : (a b : Option (List ℕ)) (bytes : List ℕ) → AppendsFront a b bytes → Gains a b
front_gains a b bytes h = (h.front, h.written)

pub both_gain : (a b c : Option (List ℕ)) → Gains a b → Gains b c → Gains a c
both_gain a b c (xs, p) (ys, q) = (xs ++ ys, Appends-trans a b c xs ys p q)

pub told_gains : (P : List ℕ → Type 0) (a b : Option (List ℕ)) → MayTell P a b → Gains a b
told_gains P a b (inl k) = kept_gains a b k
told_gains P a b (inr h) = front_gains a b h.0 h.2
