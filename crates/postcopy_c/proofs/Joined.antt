-- Texts that stand one behind the other: what one more adds.
use Rattle.std.proofs.Common.{◌≡◌, ℕ, ◌+◌, ◌<◌, ◌≤◌, List, [], ◌∷◌, ◌++◌, ap, arith, drop, get_or, length, map, refl, sym, take, ◌∙◌}
use Rattle.std.specs.Prelude.{Vec}
use Rattle.std.specs.Global.{Global}
use Rattle.std.specs.List.{concat}
use Rattle.std.proofs.lemmas.List.{append_assoc, length-append, length-drop, map-append, take-append-drop, take_more}
use Rattle.std.proofs.Math.Seq.{take-append_seam}
use Rattle.std.proofs.lemmas.List.Folds.{concat-append}
use Rattle.std.proofs.lemmas.Slice.{drop-append-drop}
use Rattle.postcopy_c.specs.declared.texts.Texts.{Texts}
use Rattle.postcopy_c.specs.Texts.{AreMeasured, ends_from, texts_of}

abbrev pub Held : Type 0
Held = Vec ℕ Global

abbrev pub parts : List Held → List (List ℕ)
parts xs = map (λ (x : Held). x.items) xs

pub parts_add : (xs : List Held) (x : Held) → parts (xs ++ x ∷ []) ≡ parts xs ++ x.items ∷ []
parts_add xs x = map-append (λ (y : Held). y.items) xs (x ∷ [])

pub parts_next : (xs : List Held) (i : ℕ) (x : Held) → i < length xs → x ≡ get_or xs i x → parts (take (i + 1) xs) ≡ parts (take i xs) ++ x.items ∷ []
parts_next xs i x lt is =
    ap (λ l. parts l) (take_more xs i x lt) ∙ parts_add (take i xs) (get_or xs i x) ∙ ap (λ (z : Held). parts (take i xs) ++ z.items ∷ []) (sym is)

pub nil_behind : (t : List ℕ) → t ++ [] ≡ t
nil_behind [] = refl
nil_behind (x ∷ t) = ap (λ l. x ∷ l) (nil_behind t)

concat_add : (ts : List (List ℕ)) (t : List ℕ) → concat (ts ++ t ∷ []) ≡ concat ts ++ t
concat_add ts t = concat-append ts (t ∷ []) ∙ ap (λ z. concat ts ++ z) (nil_behind t)

pub long_add : (ts : List (List ℕ)) (t : List ℕ) → length (concat (ts ++ t ∷ [])) ≡ length (concat ts) + length t
long_add ts t = ap length (concat_add ts t) ∙ length-append (concat ts) t

pub ends_add : (at : ℕ) (ts : List (List ℕ)) (t : List ℕ) → ends_from at (ts ++ t ∷ []) ≡ ends_from at ts ++ (at + length (concat ts) + length t) ∷ []
unfolding ends_from
ends_add at [] t = ap (λ n. n ∷ []) (omega arith)
ends_add at (u ∷ ts) t =
    ap (λ l. (at + length u) ∷ l) (ends_add (at + length u) ts t ∙ ap (λ n. ends_from (at + length u) ts ++ n ∷ []) (omega (arith, length-append u (concat ts))))

-- the texts up to one are no longer than all
pub long_front : (xs : List Held) (n : ℕ) → length (concat (parts (take n xs))) ≤ length (concat (parts xs))
long_front xs n =
    let whole : concat (parts xs) ≡ concat (parts (take n xs)) ++ concat (parts (drop n xs)) =
    ap (λ l. concat (parts l)) (sym (take-append-drop n xs))
    ∙ ap concat (map-append (λ (x : Held). x.items) (take n xs) (drop n xs))
    ∙ concat-append (parts (take n xs)) (parts (drop n xs)) in
    omega (arith, ap length whole, length-append (concat (parts (take n xs))) (concat (parts (drop n xs))))

pub long_next : (xs : List Held) (i : ℕ) (x : Held) → i < length xs → x ≡ get_or xs i x → length (concat (parts (take (i + 1) xs))) ≡ length (concat (parts (take i xs))) + length x.items
long_next xs i x lt is = ap (λ ts. length (concat ts)) (parts_next xs i x lt is) ∙ long_add (parts (take i xs)) x.items

-- a room that has these texts at its front
abbrev pub has_front : List (List ℕ) → List ℕ → List ℕ
has_front ts room = concat ts ++ drop (length (concat ts)) room

back_behind : (front t room : List ℕ) → drop (length front + length t) (front ++ drop (length front) room) ≡ drop (length front + length t) room
back_behind front t room = drop-append-drop (length front) room front (length front + length t) (omega arith) refl

pub measured_none : (held : Texts) → held.each.items ≡ [] → held.ends.items ≡ [] → held.whole ≡ 0 → AreMeasured held
unfolding ends_from
measured_none held each ends whole = record {
  ends = ends ∙ ap (λ l. ends_from 0 (parts l)) (sym each);
  whole = whole ∙ ap (λ l. length (concat (parts l))) (sym each);
}

pub measured_more : (before after : Texts) (text : Held) → AreMeasured before → after.each.items ≡ before.each.items ++ text ∷ []
    → after.ends.items ≡ before.ends.items ++ after.whole ∷ [] → after.whole ≡ before.whole + length text.items → AreMeasured after
measured_more before after text m each ends whole =
    let texts : texts_of after ≡ texts_of before ++ text.items ∷ [] = ap parts each ∙ parts_add before.each.items text in
    let long : after.whole ≡ length (concat (texts_of before)) + length text.items = whole ∙ ap (λ n. n + length text.items) m.whole in
    record {
      ends = ends ∙ ap (λ l. l ++ after.whole ∷ []) m.ends ∙ ap (λ n. ends_from 0 (texts_of before) ++ n ∷ []) (omega (arith, long))
          ∙ sym (ends_add 0 (texts_of before) text.items) ∙ ap (ends_from 0) (sym texts);
      whole = long ∙ sym (long_add (texts_of before) text.items) ∙ ap (λ ts. length (concat ts)) (sym texts);
    }

module _ (xs : List Held) (i : ℕ) (x : Held) (room old : List ℕ) (end : ℕ) (lt : i < length xs) (is : x ≡ get_or xs i x) (at : end ≡ length (concat (parts (take i xs)))) (front : old ≡ has_front (parts (take i xs)) room) where
  -- where all texts fit into a room, the next one does
  pub fits_next : length (concat (parts xs)) ≤ length room → end + length x.items ≤ length old
  fits_next all = omega (
    arith,
    all,
    at,
    ap length front,
    length-append (concat (parts (take i xs))) (drop (length (concat (parts (take i xs)))) room),
    length-drop (length (concat (parts (take i xs)))) room,
    long_next xs i x lt is,
    long_front xs i,
    long_front xs (i + 1),
  )

  pub next_front : (new : List ℕ) → new ≡ take end old ++ (x.items ++ drop (end + length x.items) old) → new ≡ has_front (parts (take (i + 1) xs)) room
  next_front new put =
      let whole = concat (parts (take i xs)) in
      let t = x.items in
      let joined : concat (parts (take (i + 1) xs)) ≡ whole ++ t = ap concat (parts_next xs i x lt is) ∙ concat_add (parts (take i xs)) t in
      put
      ∙ ap (λ e. take e old ++ (t ++ drop (e + length t) old)) at
      ∙ ap (λ o. take (length whole) o ++ (t ++ drop (length whole + length t) o)) front
      ∙ ap (λ z. z ++ (t ++ drop (length whole + length t) (whole ++ drop (length whole) room))) (take-append_seam whole (drop (length whole) room))
      ∙ ap (λ z. whole ++ (t ++ z)) (back_behind whole t room)
      ∙ sym (append_assoc whole t (drop (length whole + length t) room))
      ∙ ap (λ n. (whole ++ t) ++ drop n room) (sym (length-append whole t))
      ∙ ap (λ z. z ++ drop (length z) room) (sym joined)
