-- Laws of a list that comes line by line.
use Rattle.std.proofs.Common.{◌≡◌, ℕ, ◌-◌, ◌<◌, ◌≤◌, ◌^◌, List, [], ◌∷◌, ◌++◌, length, map, replicate, sym, ap, subst, ◌∙◌, append_assoc, length-append, arith}
use Rattle.std.specs.List.{AllByRecursion}
use Rattle.std.specs.Fmt.{decimal}
use Rattle.std.proofs.lemmas.List.{append-nil, length-replicate, map-append}
use Rattle.text_lines.specs.Text.{ended}
use Rattle.text_lines.proofs.Cut.{ended-append}
use Rattle.text_lines.proofs.Sections.{CountedAgree, counted_agree, counted_next, section_push}
use Rattle.session_grammar.specs.Grammar.{counted}
use Rattle.session_grammar.specs.inner.Held.{Part, part_onto, IsWhole, LogFits}
use Rattle.session_grammar.proofs.Lists.{all_at, all_append, all_replicate}

-- ---- its lines, and more behind them

pub part_append : {X : Type 0} (key : List ℕ) (spell : X → List ℕ) (part : Part X) (a b : List (List ℕ)) → part_onto key spell part a ++ b ≡ part_onto key spell part (a ++ b)
part_append key spell part a b = ap (λ (t : List (List ℕ)). (key ++ decimal part.count) ∷ t) (append_assoc (map spell part.items) a b)

-- some more of its items
abbrev pub with_items : {X : Type 0} → Part X → List X → Part X
with_items part more = record { count = part.count; items = part.items ++ more }

pub onto_more : {X : Type 0} (key : List ℕ) (spell : X → List ℕ) (part : Part X) (more : List X) (rest : List (List ℕ)) → part_onto key spell part (map spell more ++ rest) ≡ part_onto key spell (with_items part more) rest
onto_more key spell part more rest =
    ap (λ (t : List (List ℕ)). (key ++ decimal part.count) ∷ t) (sym (append_assoc (map spell part.items) (map spell more) rest) ∙ ap (λ (t : List (List ℕ)). t ++ rest) (sym (map-append spell part.items more)))

pub onto_push : {X : Type 0} (key : List ℕ) (spell : X → List ℕ) (part : Part X) (x : X) (more : List (List ℕ)) → part_onto key spell (with_items part (x ∷ [])) more ≡ part_onto key spell part (spell x ∷ more)
onto_push key spell part x more = ap (λ (t : List (List ℕ)). (key ++ decimal part.count) ∷ t) (section_push spell part.items x more)

-- where all its items came, it is a list of the text
pub onto_whole : {X : Type 0} (key : List ℕ) (spell : X → List ℕ) (part : Part X) (more rest : List (List ℕ)) → IsWhole part → more ≡ rest → part_onto key spell part more ≡ counted key spell part.items rest
onto_whole key spell part more rest whole e =
    ap (λ (n : ℕ). (key ++ decimal n) ∷ (map spell part.items ++ more)) (sym whole) ∙ ap (λ (t : List (List ℕ)). (key ++ decimal (length part.items)) ∷ (map spell part.items ++ t)) e

-- ---- a log begins, goes on, and is filled up

abbrev pub fresh : {X : Type 0} → ℕ → Part X
fresh n = record { count = n; items = [] }

pub fresh_fits : {X Y : Type 0} (most : ℕ) (Before : Type 0) (list : Part X) (Fits : Y → Type 0) (n : ℕ) → Before → IsWhole list → n ≤ most → LogFits most Before list Fits (fresh n)
fresh_fits most Before list Fits n before whole few = record { before = before; whole = whole; few = few; within = omega arith; each = tt }

pub push_fits : {X Y : Type 0} (most : ℕ) (Before : Type 0) (list : Part X) (Fits : Y → Type 0) (log : Part Y) (y : Y) → LogFits most Before list Fits log → length log.items < log.count → Fits y → LogFits most Before list Fits (with_items log (y ∷ []))
push_fits most Before list Fits log y f less fits = record {
  before = f.before;
  whole = f.whole;
  few = f.few;
  within = omega (arith, length-append log.items (y ∷ []));
  each = all_append Fits log.items (y ∷ []) f.each (fits, tt);
}

abbrev pub missing : {X : Type 0} → Part X → X → List X
missing part x = replicate (part.count - length part.items) x

pub filled_whole : {X : Type 0} (part : Part X) (x : X) → length part.items ≤ part.count → IsWhole (with_items part (missing part x))
filled_whole part x le = let n = part.count - length part.items in omega (arith, length-append part.items (missing part x), length-replicate n x)

pub filled_fits : {X Y : Type 0} (most : ℕ) (Before : Type 0) (list : Part X) (Fits : Y → Type 0) (log : Part Y) (y : Y) → LogFits most Before list Fits log → Fits y → LogFits most Before list Fits (with_items log (missing log y))
filled_fits most Before list Fits log y f fits =
    let whole = filled_whole log y f.within in
    record {
      before = f.before;
      whole = f.whole;
      few = f.few;
      within = omega arith;
      each = all_append Fits log.items (missing log y) f.each (all_replicate Fits (log.count - length log.items) y fits);
    }

-- ---- what a text that begins so has next

pub agrees : {X : Type 0} (key : List ℕ) (spell : X → List ℕ) (part : Part X) (xs : List X) (rest more : List (List ℕ)) → part.count < 2 ^ 64 → length xs < 2 ^ 64 → counted key spell xs rest ≡ part_onto key spell part more → CountedAgree spell part.count xs part.items rest more
agrees key spell part xs rest more p q e = counted_agree key spell part.count xs part.items rest more p q (sym e)

-- an item, where one is missing
pub item_at : {X : Type 0} (spell : X → List ℕ) (Fits : X → Type 0) (part : Part X) (xs : List X) (rest more : List (List ℕ)) (line : List ℕ) → CountedAgree spell part.count xs part.items rest (line ∷ more) → length part.items < part.count → AllByRecursion Fits xs → (x : X) × Fits x × (line ≡ spell x)
item_at spell Fits part xs rest more line a less each =
    let n = counted_next spell part.count xs part.items rest more line a less in
    (n.item, all_at Fits n.front n.item n.back (subst (AllByRecursion Fits) n.whole each), n.spelled)

-- the number of a list's items
pub count_at : {X : Type 0} (most : ℕ) (key : List ℕ) (spell : X → List ℕ) (xs : List X) (rest more : List (List ℕ)) (line : List ℕ) → counted key spell xs rest ≡ line ∷ more → length xs ≤ most → (n : ℕ) × (n ≤ most) × (line ≡ key ++ decimal n)
count_at most key spell xs rest more line e few =
    let l : line ≡ key ++ decimal (length xs) = cc in
    (length xs, few, l)

-- ---- text

-- some lines, and then others
pub ended_then : (old now new : List ℕ) (front : List (List ℕ)) (back : List (List ℕ)) → now ≡ old ++ ended front → new ≡ now ++ ended back → new ≡ old ++ ended (front ++ back)
ended_then old now new front back p q =
    q ∙ (ap (λ (t : List ℕ). t ++ ended back) p ∙ (append_assoc old (ended front) (ended back) ∙ ap (λ (t : List ℕ). old ++ t) (ap (λ (t : List ℕ). ended front ++ t) (sym (append-nil (ended back))) ∙ (sym (ended-append front back []) ∙ append-nil (ended (front ++ back))))))
