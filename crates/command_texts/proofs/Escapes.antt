-- A name between quotation marks, as it is written.
use Rattle.std.proofs.Common.{◌≡◌, ◌∙◌, ℕ, ◌+◌, ◌<◌, List, [], ◌∷◌, ◌++◌, Option, length, drop, get_or, sym, ap, append_assoc, cond, false}
use Rattle.std.proofs.lemmas.List.{at_drop_more}
use Rattle.std.specs.Io.KnownBytes.{Appends}
use Rattle.std.proofs.KnownBytes.{Appends-trans}
use Rattle.refusal_words.specs.Hidden.{is_hidden}
use Rattle.command_texts.specs.Shown.{are_printed, escaped, escapes, quoted}
use Rattle.text_access.specs.Written.{AppendsFront}
use Rattle.text_access.proofs.Fronts.{front_before, front_behind}

-- what is left to see of the characters begins with this one
pub printed_next : (cs : List ℕ) (n c : ℕ) → (n < length cs) × (c ≡ get_or cs n c) → are_printed (drop n cs) ≡ cond (is_hidden c) false (are_printed (drop (n + 1) cs))
printed_next cs n c h = at_drop_more are_printed cs n c h.0 ∙ ap (λ x. cond (is_hidden x) false (are_printed (drop (n + 1) cs))) (sym h.1)

pub escapes_next : (cs : List ℕ) (n c : ℕ) → (n < length cs) × (c ≡ get_or cs n c) → escapes (drop n cs) ≡ escaped c ++ escapes (drop (n + 1) cs)
escapes_next cs n c h = at_drop_more escapes cs n c h.0 ∙ ap (λ x. escaped x ++ escapes (drop (n + 1) cs)) (sym h.1)

-- a name was written up to these characters
pub record IsQuotedTo (old new : Option (List ℕ)) (name rest : List ℕ) : Type 0 where
  pub front : List ℕ
  pub parts : quoted name ≡ front ++ (escapes rest ++ 34 ∷ [])
  pub written : Appends old new front

-- one character more
pub quoted_more : (old mid new : Option (List ℕ)) (name rest more : List ℕ) (c : ℕ) → escapes rest ≡ escaped c ++ escapes more → IsQuotedTo old mid name rest → Appends mid new (escaped c) → IsQuotedTo old new name more
quoted_more old mid new name rest more c e h next = record {
  front = h.front ++ escaped c;
  parts = h.parts ∙ ap (λ (l : List ℕ). h.front ++ (l ++ 34 ∷ [])) e
      ∙ ap (λ (l : List ℕ). h.front ++ l) (append_assoc (escaped c) (escapes more) (34 ∷ []))
      ∙ sym (append_assoc h.front (escaped c) (escapes more ++ 34 ∷ []));
  written = Appends-trans old mid new h.front (escaped c) h.written next;
}

-- a front of what is left was written
pub quoted_front : (old mid new : Option (List ℕ)) (name rest : List ℕ) → IsQuotedTo old mid name rest → AppendsFront mid new (escapes rest ++ 34 ∷ []) → AppendsFront old new (quoted name)
quoted_front old mid new name rest h more = rw h.parts (front_behind old mid new h.front (escapes rest ++ 34 ∷ []) h.written more)

-- a front of the next character was written
pub quoted_cut : (old mid new : Option (List ℕ)) (name rest more : List ℕ) (c : ℕ) → escapes rest ≡ escaped c ++ escapes more → IsQuotedTo old mid name rest → AppendsFront mid new (escaped c) → AppendsFront old new (quoted name)
quoted_cut old mid new name rest more c e h cut =
    quoted_front old mid new name rest h (rw (ap (λ (l : List ℕ). l ++ 34 ∷ []) e ∙ append_assoc (escaped c) (escapes more) (34 ∷ [])) (front_before mid new (escaped c) (escapes more ++ 34 ∷ []) cut))

-- no character is left
pub quoted_last : (old mid new : Option (List ℕ)) (name rest : List ℕ) → escapes rest ≡ [] → IsQuotedTo old mid name rest → Appends mid new (34 ∷ []) → Appends old new (quoted name)
quoted_last old mid new name rest e h last =
    rw (h.parts ∙ ap (λ (l : List ℕ). h.front ++ (l ++ 34 ∷ [])) e) (Appends-trans old mid new h.front (34 ∷ []) h.written last)

pub quoted_last_front : (old mid new : Option (List ℕ)) (name rest : List ℕ) → escapes rest ≡ [] → IsQuotedTo old mid name rest → AppendsFront mid new (34 ∷ []) → AppendsFront old new (quoted name)
quoted_last_front old mid new name rest e h last = quoted_front old mid new name rest h (rw (ap (λ (l : List ℕ). l ++ 34 ∷ []) e) last)
