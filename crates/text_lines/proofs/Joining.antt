-- Items taken in a row, part by part.
use Rattle.std.proofs.Common.{◌≡◌, ℕ, ◌+◌, ◌-◌, ◌<◌, List, [], ◌∷◌, ◌++◌, length, map, drop, get_or, sym, ap, subst, ◌∙◌, append_assoc, length-append, arith}
use Rattle.std.proofs.lemmas.List.{append-nil, map-append}
use Rattle.std.proofs.Math.Seq.{drop-append_seam}
use Rattle.text_lines.specs.Text.{ended}
use Rattle.text_lines.specs.Counted.{AllFollow, TakesItems}
use Rattle.text_lines.proofs.Cut.{ended-append}
use Rattle.text_lines.proofs.Counting.{all_append}

-- which item may stand behind others is told by the last of them
abbrev pub ByLast : {X : Type 0} → (List X → X → Type 0) → Type 0
ByLast {X} MayFollow = (a b : List X) (x y : X) → MayFollow (a ++ x ∷ []) y → MayFollow (b ++ x ∷ []) y

follow_more : {X : Type 0} (MayFollow : List X → X → Type 0) (old xs ys mid : List X) → AllFollow MayFollow old xs → mid ≡ old ++ xs → AllFollow MayFollow mid ys → AllFollow MayFollow old (xs ++ ys)
follow_more {X} MayFollow old [] ys mid h e k = subst (λ (before : List X). AllFollow MayFollow before ys) (e ∙ append-nil old) k
follow_more MayFollow old (x ∷ xs) ys mid h e k = (h.0, follow_more MayFollow (old ++ x ∷ []) xs ys mid h.1 (e ∙ sym (append_assoc old (x ∷ []) xs)) k)

follow_behind : {X : Type 0} (MayFollow : List X → X → Type 0) → ByLast MayFollow → (a b : List X) (x : X) (xs : List X) → AllFollow MayFollow (a ++ x ∷ []) xs → AllFollow MayFollow (b ++ x ∷ []) xs
follow_behind MayFollow law a b x [] h = tt
follow_behind MayFollow law a b x (y ∷ ys) h = (law a b x y h.0, follow_behind MayFollow law (a ++ x ∷ []) (b ++ x ∷ []) y ys h.1)

pub took_more : {X : Type 0} (spell : X → List ℕ) (Fits : X → Type 0) (MayFollow : List X → X → Type 0) (old mid new : List X) (bytes rest after : List ℕ) (m n : ℕ) → TakesItems spell Fits MayFollow old mid bytes rest m → TakesItems spell Fits MayFollow mid new rest after n → TakesItems spell Fits MayFollow old new bytes after (m + n)
took_more {X} spell Fits MayFollow old mid new bytes rest after m n a b = record {
  taken = a.taken ++ b.taken;
  items = b.items ∙ (ap (λ (x : List X). x ++ b.taken) a.items ∙ append_assoc old a.taken b.taken);
  parts =
      a.parts ∙ (ap (λ (x : List ℕ). ended (map spell a.taken) ++ x) b.parts ∙ (sym (ended-append (map spell a.taken) (map spell b.taken) after)
      ∙ ap (λ (x : List (List ℕ)). ended x ++ after) (sym (map-append spell a.taken b.taken))));
  counted = omega (arith, length-append a.taken b.taken, a.counted, b.counted);
  fits = all_append Fits a.taken b.taken a.fits b.fits;
  follow = follow_more MayFollow old a.taken b.taken mid a.follow a.items b.follow;
}

follow_first : {X : Type 0} (MayFollow : List X → X → Type 0) → ByLast MayFollow → (old xs : List X) (x : X) → 0 < length xs → x ≡ get_or xs 0 x → AllFollow MayFollow [] xs → MayFollow old x → AllFollow MayFollow old xs
follow_first MayFollow law old [] x lt first h may = tt
follow_first MayFollow law old (y ∷ ys) x lt first h may = (subst (MayFollow old) first may, follow_behind MayFollow law [] old y ys h.1)

-- taken into an empty list, and then moved behind others, where the first of them may stand there
pub took_moved : {X : Type 0} (spell : X → List ℕ) (Fits : X → Type 0) (MayFollow : List X → X → Type 0) → ByLast MayFollow → (old items new : List X) (x : X) (bytes rest : List ℕ) (n : ℕ) → TakesItems spell Fits MayFollow [] items bytes rest n → 0 < length items → x ≡ get_or items 0 x → MayFollow old x → new ≡ old ++ items → TakesItems spell Fits MayFollow old new bytes rest n
took_moved {X} spell Fits MayFollow law old items new x bytes rest n t some first may e = record {
  taken = t.taken;
  items = e ∙ ap (λ (ys : List X). old ++ ys) t.items;
  parts = t.parts;
  counted = t.counted;
  fits = t.fits;
  follow = subst (AllFollow MayFollow old) t.items (follow_first MayFollow law old items x some first (subst (AllFollow MayFollow []) (sym t.items) t.follow) may);
}

-- taken at the front of a piece, and so at the front of more
pub took_front : {X : Type 0} (spell : X → List ℕ) (Fits : X → Type 0) (MayFollow : List X → X → Type 0) (old new : List X) (piece rest after : List ℕ) (n : ℕ) → TakesItems spell Fits MayFollow old new piece rest n → TakesItems spell Fits MayFollow old new (piece ++ after) (rest ++ after) n
took_front spell Fits MayFollow old new piece rest after n t = record {
  taken = t.taken;
  items = t.items;
  parts = ap (λ (x : List ℕ). x ++ after) t.parts ∙ append_assoc (ended (map spell t.taken)) rest after;
  counted = t.counted;
  fits = t.fits;
  follow = t.follow;
}

-- taken of a piece to its end, and then of what follows it
pub took_on : {X : Type 0} (spell : X → List ℕ) (Fits : X → Type 0) (MayFollow : List X → X → Type 0) (old mid new : List X) (bytes front last rest after : List ℕ) (m n : ℕ) → bytes ≡ front ++ last → rest ≡ [] → TakesItems spell Fits MayFollow mid new last after n → TakesItems spell Fits MayFollow old mid front rest m → TakesItems spell Fits MayFollow old new bytes after (m + n)
took_on {X} spell Fits MayFollow old mid new bytes front last rest after m n cut none u t =
    let whole = subst (λ (x : List ℕ). TakesItems spell Fits MayFollow old mid front x m) none t in
    took_more spell Fits MayFollow old mid new bytes last after m n
    (subst (λ (x : List ℕ). TakesItems spell Fits MayFollow old mid x last m) (sym cut) (took_front spell Fits MayFollow old mid front [] last m whole)) u

-- taken of a piece, and so of more
pub took_before : {X : Type 0} (spell : X → List ℕ) (Fits : X → Type 0) (MayFollow : List X → X → Type 0) (old new : List X) (bytes front last rest : List ℕ) (n : ℕ) → bytes ≡ front ++ last → TakesItems spell Fits MayFollow old new front rest n → TakesItems spell Fits MayFollow old new bytes (drop (length front - length rest) bytes) n
took_before {X} spell Fits MayFollow old new bytes front last rest n cut t =
    let taken = ended (map spell t.taken) in
    let at : length taken ≡ length front - length rest = omega (arith, ap length t.parts, length-append taken rest) in
    let whole : bytes ≡ taken ++ (rest ++ last) = cut ∙ (ap (λ (x : List ℕ). x ++ last) t.parts ∙ append_assoc taken rest last) in
    let behind : rest ++ last ≡ drop (length front - length rest) bytes = sym (drop-append_seam taken (rest ++ last)) ∙ (ap (drop (length taken)) (sym whole) ∙ ap (λ (k : ℕ). drop k bytes) at) in
    subst (λ (x : List ℕ). TakesItems spell Fits MayFollow old new bytes x n) behind
    (subst (λ (x : List ℕ). TakesItems spell Fits MayFollow old new x (rest ++ last) n) (sym cut) (took_front spell Fits MayFollow old new front rest last n t))
