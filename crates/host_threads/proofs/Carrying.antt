-- What comes back from a relay, one piece after another.
use Rattle.std.proofs.Common.{◌≡◌, ◌≤◌, ℕ, zero, suc, List, [], ◌∷◌, ◌++◌, length, take, drop, ◌+◌, Option, Some, None, refl, sym, ap, ◌∙◌, subst, arith, append_assoc}
use Rattle.std.proofs.lemmas.List.{append-nil}
use Rattle.std.specs.Io.KnownBytes.{Appends, Consumes}
use Rattle.host_threads.specs.Echoes.{Carries, HasCarried}

nothing : (a : Option (List ℕ)) → Carries a a [] []
nothing None = tt
nothing (Some held) = append-nil held

written : (a b : Option (List ℕ)) (bytes : List ℕ) → Appends a b bytes → Carries a b bytes []
written None b bytes more = tt
written (Some held) None bytes more = more
written (Some held) (Some left) bytes more = sym more

gave : (a b : Option (List ℕ)) (bytes : List ℕ) → Consumes a b bytes → Carries a b [] bytes
gave None b bytes less = tt
gave (Some held) None bytes less = less
gave (Some held) (Some left) bytes less = append-nil held ∙ less

carries_then : (a b c : Option (List ℕ)) (s t x y : List ℕ) → Carries a b s x → Carries b c t y → Carries a c (s ++ t) (x ++ y)
carries_then None b c s t x y one other = tt
carries_then (Some held) None c s t x y one other = absurd (one)
carries_then (Some held) (Some mid) None s t x y one other = other
carries_then (Some held) (Some mid) (Some left) s t x y one other =
    sym (append_assoc held s t) ∙ ap (λ (xs : List ℕ). xs ++ t) one ∙ append_assoc x mid t ∙ ap (λ (xs : List ℕ). x ++ xs) other ∙ sym (append_assoc x y left)

pub carried_none : (a : Option (List ℕ)) (xs : List ℕ) → HasCarried a a [] xs xs
carried_none a xs = record { came = []; new_is = sym (append-nil xs); carries = nothing a }

pub carried_out : (a b : Option (List ℕ)) (bytes xs : List ℕ) → Appends a b bytes → HasCarried a b bytes xs xs
carried_out a b bytes xs more = record { came = []; new_is = sym (append-nil xs); carries = written a b bytes more }

pub carried_then : (a b c : Option (List ℕ)) (s t xs ys zs : List ℕ) → HasCarried a b s xs ys → HasCarried b c t ys zs → HasCarried a c (s ++ t) xs zs
carried_then a b c s t xs ys zs one other = record {
  came = one.came ++ other.came;
  new_is = other.new_is ∙ ap (λ (us : List ℕ). us ++ other.came) one.new_is ∙ append_assoc xs one.came other.came;
  carries = carries_then a b c s t one.came other.came one.carries other.carries;
}

-- where nothing had come
pub carried_all : (a b : Option (List ℕ)) (s xs ys : List ℕ) → xs ≡ [] → HasCarried a b s xs ys → Carries a b s ys
carried_all a b s xs ys none h = subst (λ (us : List ℕ). Carries a b s us) (sym (h.new_is ∙ ap (λ (us : List ℕ). us ++ h.came) none)) h.carries

-- ---- bytes that go out in pieces

-- some of the bytes went out, and these are left
pub record Through (a b : Option (List ℕ)) (bytes rest xs ys : List ℕ) : Type 0 where
  pub sent : List ℕ
  pub bytes_are : bytes ≡ sent ++ rest
  pub carried : HasCarried a b sent xs ys

pub through_none : (a : Option (List ℕ)) (bytes xs : List ℕ) → Through a a bytes bytes xs xs
through_none a bytes xs = record { sent = []; bytes_are = refl; carried = carried_none a xs }

takes_all : (k : ℕ) (xs : List ℕ) → length xs ≤ k → take k xs ≡ xs
takes_all zero [] less = refl
takes_all (suc k) [] less = refl
takes_all zero (x ∷ xs) less = absurd (omega (arith, less))
takes_all (suc k) (x ∷ xs) less = ap (λ (ys : List ℕ). x ∷ ys) (takes_all k xs (omega (arith, less)))

-- a piece of the first bytes, and those behind it
pub splits : (n m k : ℕ) (xs : List ℕ) → n ≤ m → length xs ≤ n + k → take n (take m xs) ++ take k (drop n xs) ≡ xs
splits zero m k xs less all = takes_all k xs (omega (arith, all))
splits (suc n) zero k xs less all = absurd (omega (arith, less))
splits (suc n) (suc m) k [] less all = takes_all k [] (omega arith)
splits (suc n) (suc m) k (x ∷ xs) less all = ap (λ (ys : List ℕ). x ∷ ys) (splits n m k xs (omega (arith, less)) (omega (arith, all)))

pub through_more : (a b c d : Option (List ℕ)) (bytes rest out left xs ys zs : List ℕ) → Through a b bytes rest xs ys → Appends b c out → HasCarried c d [] ys zs → out ++ left ≡ rest → Through a d bytes left xs zs
through_more a b c d bytes rest out left xs ys zs so_far more back is = record {
  sent = so_far.sent ++ (out ++ []);
  bytes_are =
      so_far.bytes_are
      ∙ ap (λ (us : List ℕ). so_far.sent ++ us) (sym is ∙ ap (λ (us : List ℕ). us ++ left) (sym (append-nil out)))
      ∙ sym (append_assoc so_far.sent (out ++ []) left);
  carried = carried_then a b d so_far.sent (out ++ []) xs ys zs so_far.carried (carried_then b c d out [] ys ys zs (carried_out b c out ys more) back);
}

pub through_all : (a b : Option (List ℕ)) (bytes rest xs ys : List ℕ) → rest ≡ [] → Through a b bytes rest xs ys → HasCarried a b bytes xs ys
through_all a b bytes rest xs ys none t = subst (λ (us : List ℕ). HasCarried a b us xs ys) (sym (t.bytes_are ∙ ap (λ (us : List ℕ). t.sent ++ us) none ∙ append-nil t.sent)) t.carried
