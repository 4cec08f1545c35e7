-- A text that is written in pieces.
use Rattle.std.proofs.Common.{◌≡◌, ◌∙◌, ℕ, ◌<◌, List, [], ◌∷◌, ◌++◌, length, map, take, drop, ◌≤◌, Option, Result, Ok, Err, arith, sym, ap, subst, append_assoc, append-nil, take_all, length-append}
use Rattle.std.proofs.lemmas.List.{take-append-drop, map-append}
use Rattle.std.specs.Prelude.{OnErr, OnOk}
use Rattle.std.specs.Fmt.{decimal}
use Rattle.std.specs.Io.KnownBytes.{Appends}
use Rattle.std.proofs.KnownBytes.{Appends-nil, Appends-trans}
use Rattle.text_access.specs.Written.{AppendsFront, AppendsPart}
use Rattle.text_access.proofs.Fronts.{front_behind, part_before, part_behind, part_of}
use Rattle.text_lines.specs.Text.{ended}
use Rattle.text_lines.specs.Counted.{counted}
use Rattle.session_log.specs.inner.Rooms.{AreBehind}
use Rattle.session_log.proofs.Written.{two_ended}

-- all of it was written
pub none_held : (old new : Option (List ℕ)) (held text : List ℕ) → Appends old new text → held ≡ [] → AreBehind old new held text
none_held old new held text all none = (text, all, sym (append-nil text) ∙ ap (λ (t : List ℕ). text ++ t) (sym none))

-- nothing was written of what is not empty
pub none_written : (now : Option (List ℕ)) (held line : List ℕ) → 0 < length line → AppendsPart now now (held ++ line)
none_written now held line some = part_of now now 0 (held ++ line) (omega (arith, some, length-append held line)) (Appends-nil now)

pub if_err : {T E P : Type 0} (r : Result T E) → P → OnErr r P
if_err (Ok x) p = tt
if_err (Err e) p = p

pub ok_then : {T E P Q : Type 0} (r : Result T E) → OnOk r P → (P → Q) → OnOk r Q
ok_then (Ok x) p f = f p
ok_then (Err e) p f = tt

pub err_then : {T E P Q : Type 0} (r : Result T E) → OnErr r P → (P → Q) → OnErr r Q
err_then (Ok x) p f = tt
err_then (Err e) p f = f p

module _ (old now new : Option (List ℕ)) (held text : List ℕ) where
  -- lines more are held, or written
  pub goes_on : (left line : List ℕ) → AreBehind old now held text → AreBehind now new left (held ++ line) → AreBehind old new left (text ++ line)
  goes_on left line (front, written, is) (more, then, rest) =
      (front ++ more, Appends-trans old now new front more written then, ap (λ (t : List ℕ). t ++ line) is ∙ append_assoc front held line ∙ ap (λ (t : List ℕ). front ++ t) rest ∙ sym (append_assoc front more left))

  -- or a part of them is written
  pub cut : (line : List ℕ) → AreBehind old now held text → AppendsPart now new (held ++ line) → AppendsPart old new (text ++ line)
  cut line (front, written, is) rest =
      subst (AppendsPart old new) (sym (ap (λ (t : List ℕ). t ++ line) is ∙ append_assoc front held line)) (part_behind old now new front (held ++ line) written rest)

  -- a front of what is held is written, or a part of it
  pub front_of : AreBehind old now held text → AppendsFront now new held → AppendsFront old new text
  front_of (front, written, is) rest = subst (AppendsFront old new) (sym is) (front_behind old now new front held written rest)

  pub part_cut : AreBehind old now held text → AppendsPart now new held → AppendsPart old new text
  part_cut (front, written, is) rest = subst (AppendsPart old new) (sym is) (part_behind old now new front held written rest)

-- the lines of a list, once all of its items were taken
pub list_whole : {X : Type 0} (key : List ℕ) (spell : X → List ℕ) (xs : List X) (i : ℕ) → length xs ≤ i → ended ((key ++ decimal (length xs)) ∷ map spell (take i xs)) ≡ ended (counted key spell xs [])
list_whole key spell xs i le = ap (λ (t : List (List ℕ)). ended ((key ++ decimal (length xs)) ∷ t)) (ap (map spell) (take_all i xs le) ∙ sym (append-nil (map spell xs)))

-- or a part of its lines was written
list_joined : {X : Type 0} (key : List ℕ) (spell : X → List ℕ) (xs : List X) (i : ℕ) → ended ((key ++ decimal (length xs)) ∷ map spell (take i xs)) ++ ended (map spell (drop i xs)) ≡ ended (counted key spell xs [])
list_joined key spell xs i =
    let line = key ++ decimal (length xs) in
    two_ended (line ∷ map spell (take i xs)) (map spell (drop i xs))
    ∙ ap (λ (t : List (List ℕ)). ended (line ∷ t)) (sym (map-append spell (take i xs) (drop i xs)) ∙ ap (map spell) (take-append-drop i xs) ∙ sym (append-nil (map spell xs)))

pub list_part : {X : Type 0} (old new : Option (List ℕ)) (held key : List ℕ) (spell : X → List ℕ) (xs : List X) (i : ℕ) → AppendsPart old new (held ++ ended ((key ++ decimal (length xs)) ∷ map spell (take i xs))) → AppendsPart old new (held ++ ended (counted key spell xs []))
list_part old new held key spell xs i part =
    let front = ended ((key ++ decimal (length xs)) ∷ map spell (take i xs)) in
    let back = ended (map spell (drop i xs)) in
    subst (AppendsPart old new) (append_assoc held front back ∙ ap (λ (t : List ℕ). held ++ t) (list_joined key spell xs i)) (part_before old new (held ++ front) back part)

-- a line is not empty
pub some_line : (front : List ℕ) → 0 < length (front ++ 10 ∷ [])
some_line front = omega (arith, length-append front (10 ∷ []))
