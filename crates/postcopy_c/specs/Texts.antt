-- Texts, one after another.
use Rattle.std.specs.Prelude.{◌≡◌, ℕ, ◌+◌, List, [], ◌∷◌, length, map, Vec}
use Rattle.std.specs.Global.{Global}
use Rattle.std.specs.List.{concat}
use Rattle.postcopy_c.specs.declared.texts.Texts.{Texts}

-- the texts that are held
abbrev pub texts_of : Texts → List (List ℕ)
texts_of held = map (λ (text : Vec ℕ Global). text.items) held.each.items

-- where each text ends, if the first begins here
unfoldable pub ends_from : ℕ → List (List ℕ) → List ℕ
ends_from at [] = []
ends_from at (text ∷ texts) = (at + length text) ∷ ends_from (at + length text) texts

-- the ends and the total length are those of the texts
pub record AreMeasured (held : Texts) : Type 0 where
  pub ends : held.ends.items ≡ ends_from 0 (texts_of held)
  pub whole : held.whole ≡ length (concat (texts_of held))
