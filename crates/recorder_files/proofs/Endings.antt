-- What the name of a file gets as it is compressed.
use Rattle.std.proofs.Common.{◌≡◌, ◌∙◌, ℕ, inl, inr, List, [], ◌∷◌, ◌++◌, Option, Some, None, ap, codes, refl, subst, sym}
use Rattle.std.specs.Prelude.{◌==◌, if◌then◌else◌, IfNone}
use Rattle.std.proofs.lemmas.List.{append_cancel_right}
use Rattle.recorder_files.specs.Names.{IsCompressedName, IsEnding}

-- a name that ends in none of the endings is none that a file gets
pub not_ended : (name whole : List ℕ) → (name ≡ whole ++ codes ".bz2" → ⊥) → (name ≡ whole ++ codes ".gz" → ⊥) → (name ≡ whole ++ codes ".lz4" → ⊥) → (name ≡ whole ++ codes ".lzma" → ⊥) → (name ≡ whole ++ codes ".xz" → ⊥) → (name ≡ whole ++ codes ".zst" → ⊥) → IsCompressedName whole name → ⊥
not_ended name whole bz2 gz lz4 lzma xz zst named = go named.1
  where
    ended : (ending : List ℕ) → named.0 ≡ ending → name ≡ whole ++ ending
    ended ending is = named.2 ∙ ap (λ (e : List ℕ). whole ++ e) is

    go : IsEnding named.0 → ⊥
    go (inl is) = bz2 (ended (codes ".bz2") is)
    go (inr (inl is)) = gz (ended (codes ".gz") is)
    go (inr (inr (inl is))) = lz4 (ended (codes ".lz4") is)
    go (inr (inr (inr (inl is)))) = lzma (ended (codes ".lzma") is)
    go (inr (inr (inr (inr (inl is))))) = xz (ended (codes ".xz") is)
    go (inr (inr (inr (inr (inr is))))) = zst (ended (codes ".zst") is)

pub if_none : {X : Type 0} (r : Option X) (P Q : Type 0) → (P → Q) → IfNone r P → IfNone r Q
if_none None P Q f p = f p
if_none (Some x) P Q f p = tt

-- ---- a name has one ending

-- the last two bytes
abbrev last_two : ℕ × ℕ → List ℕ → ℕ × ℕ
last_two before [] = before
last_two before (b ∷ bs) = last_two (before.1, b) bs

last_two_behind : (before : ℕ × ℕ) (xs ys : List ℕ) → last_two before (xs ++ ys) ≡ last_two (last_two before xs) ys
last_two_behind before [] ys = refl
last_two_behind before (x ∷ xs) ys = last_two_behind (before.1, x) xs ys

-- the ending that has these last bytes
abbrev ending_by : ℕ × ℕ → List ℕ
ending_by last = if last.1 == 50 then codes ".bz2" else (if last.1 == 52 then codes ".lz4" else (if last.1 == 97 then codes ".lzma" else (if last.1 == 116 then codes ".zst" else (if last.0 == 103 then codes ".gz" else codes ".xz"))))

ending_is : (before : ℕ × ℕ) (ending : List ℕ) → IsEnding ending → ending_by (last_two before ending) ≡ ending
ending_is before ending is = go is
  where
    at : (known : List ℕ) → ending ≡ known → ending_by (last_two before known) ≡ known → ending_by (last_two before ending) ≡ ending
    at known same e = subst (λ (x : List ℕ). ending_by (last_two before x) ≡ x) (sym same) e

    go : IsEnding ending → ending_by (last_two before ending) ≡ ending
    go (inl is) = at (codes ".bz2") is refl
    go (inr (inl is)) = at (codes ".gz") is refl
    go (inr (inr (inl is))) = at (codes ".lz4") is refl
    go (inr (inr (inr (inl is)))) = at (codes ".lzma") is refl
    go (inr (inr (inr (inr (inl is))))) = at (codes ".xz") is refl
    go (inr (inr (inr (inr (inr is))))) = at (codes ".zst") is refl

ending_in : (name whole : List ℕ) (named : IsCompressedName whole name) → ending_by (last_two (0, 0) name) ≡ named.0
ending_in name whole named = ap (λ (n : List ℕ). ending_by (last_two (0, 0) n)) named.2 ∙ (ap ending_by (last_two_behind (0, 0) whole named.0) ∙ ending_is (last_two (0, 0) whole) named.0 named.1)

-- a name is that of one compressed file
pub one_whole : (name whole other : List ℕ) → IsCompressedName whole name → IsCompressedName other name → whole ≡ other
one_whole name whole other named known = append_cancel_right whole other named.0 (sym named.2 ∙ (known.2 ∙ ap (λ (e : List ℕ). other ++ e) (sym same)))
  where
    same : named.0 ≡ known.0
    same = sym (ending_in name whole named) ∙ ending_in name other known
