-- Laws on cutting an input into two texts.
use Rattle.std.proofs.Common.{◌≡◌, ◌≢◌, ℕ, ◌-◌, true, false, List, [], ◌∷◌, ◌++◌, length, take, drop, refl, sym, ap, subst, ◌∙◌, append_assoc, length-append, arith, codes, inl, inr}
use Rattle.std.specs.Prelude.{Option, Some, None, Bool, MatchOption}
use Rattle.std.specs.Borrow.{Bor}
use Rattle.std.specs.List.{AllByRecursion}
use Rattle.std.proofs.lemmas.List.{append-nil, take_at, take-append-drop, append_cancel_left}
use Rattle.text_lines.specs.Text.{ended, IsLine, IsCut}
use Rattle.text_lines.proofs.Cut.{ended-push}
use Rattle.command_texts.specs.Cutting.{IsCutAtEnd}
use Rattle.command_texts.specs.inner.Ends.{IsLacking, NoEndYet, EndsThere, CutBy, CameAs}

all_push : (P : List ℕ → Type 0) (lines : List (List ℕ)) (line : List ℕ) → AllByRecursion P lines → P line → AllByRecursion P (lines ++ line ∷ [])
all_push P [] line h p = (p, tt)
all_push P (x ∷ lines) line h p = (h.0, all_push P lines line h.1 p)

all_both : (P : ℕ → Type 0) (xs ys : List ℕ) → AllByRecursion P xs → AllByRecursion P ys → AllByRecursion P (xs ++ ys)
all_both P [] ys h k = k
all_both P (x ∷ xs) ys h k = (h.0, all_both P xs ys h.1 k)

-- ---- the lines of an input as it comes

-- the last line ends
ended_here : (text : List ℕ) (lacking : Option (Bor (List ℕ))) (line : List ℕ) (y : NoEndYet text lacking) → text ++ (line ++ 10 ∷ []) ≡ ended (y.lines ++ (y.unended ++ line) ∷ []) ++ []
ended_here text lacking line y =
    ap (λ (t : List ℕ). t ++ (line ++ 10 ∷ [])) y.whole
    ∙ (append_assoc (ended y.lines) y.unended (line ++ 10 ∷ [])
    ∙ (ap (λ (t : List ℕ). ended y.lines ++ t) (sym (append_assoc y.unended line (10 ∷ [])))
    ∙ sym (ended-push y.lines (y.unended ++ line) [])))

-- and is not `end`
pub line_passed : (text : List ℕ) (lacking fresh : Option (Bor (List ℕ))) (line : List ℕ) → NoEndYet text lacking → IsLine line → ((start : List ℕ) → IsLacking start lacking → start ++ line ≢ codes "end") → IsLacking [] fresh → NoEndYet (text ++ (line ++ 10 ∷ [])) fresh
line_passed text lacking fresh line y plain other lacks = record {
  lines = y.lines ++ (y.unended ++ line) ∷ [];
  unended = [];
  whole = ended_here text lacking line y;
  last = tt;
  before = record {
    plain = all_push IsLine y.lines (y.unended ++ line) y.before.plain (all_both (λ b. b ≢ 10) y.unended line y.last plain);
    none = all_push (λ x. x ≢ codes "end") y.lines (y.unended ++ line) y.before.none (other y.unended y.lacks);
  };
  lacks = lacks;
}

-- and is `end`
pub line_ends : (text : List ℕ) (lacking : Option (Bor (List ℕ))) (line : List ℕ) → NoEndYet text lacking → ((start : List ℕ) → IsLacking start lacking → start ++ line ≡ codes "end") → EndsThere (text ++ (line ++ 10 ∷ []))
line_ends text lacking line y is = record {
  lines = y.lines;
  before = y.before;
  whole = ended_here text lacking line y ∙ (append-nil (ended (y.lines ++ (y.unended ++ line) ∷ [])) ∙ ap (λ (l : List ℕ). ended (y.lines ++ l ∷ [])) (is y.unended y.lacks));
}

-- the last line goes on
pub line_goes_on : (text : List ℕ) (lacking new : Option (Bor (List ℕ))) (rest : List ℕ) → NoEndYet text lacking → IsLine rest → ((start : List ℕ) → IsLacking start lacking → IsLacking (start ++ rest) new) → NoEndYet (text ++ rest) new
line_goes_on text lacking new rest y plain lacks = record {
  lines = y.lines;
  unended = y.unended ++ rest;
  whole = ap (λ (t : List ℕ). t ++ rest) y.whole ∙ append_assoc (ended y.lines) y.unended rest;
  last = all_both (λ b. b ≢ 10) y.unended rest y.last plain;
  before = y.before;
  lacks = lacks y.unended y.lacks;
}

-- a piece of which a front, a line and its LF came
pub parts_yet : (piece front rest line after : List ℕ) → piece ≡ front ++ rest → IsCut rest line after → piece ≡ (front ++ (line ++ 10 ∷ [])) ++ after
parts_yet piece front rest line after parts cut =
    parts ∙ (ap (λ (t : List ℕ). front ++ t) (cut.parts ∙ sym (append_assoc line (10 ∷ []) after)) ∙ sym (append_assoc front (line ++ 10 ∷ []) after))

pub take_front : (xs ys zs : List ℕ) → zs ≡ xs ++ ys → take (length zs - length ys) zs ≡ xs
take_front xs ys zs e = rw e (take_at xs ys (length (xs ++ ys) - length ys) (omega (arith, length-append xs ys)))

-- ---- both texts as they come

module _ (First Second : List ℕ → Type 0) (ended_yet : Bool) (lacking : Option (Bor (List ℕ))) (piece : List ℕ) where
  -- the second goes on
  pub second_more : (Next : List ℕ → Type 0) → true ≡ ended_yet → ((text : List ℕ) → Second text → Next (text ++ piece)) → (input : List ℕ) → CameAs First Second ended_yet lacking input → CameAs First Next ended_yet lacking (input ++ piece)
  second_more Next is more input c = record {
    first = c.first;
    second = c.second ++ piece;
    parts = ap (λ (t : List ℕ). t ++ piece) c.parts ∙ append_assoc c.first c.second piece;
    first_came = c.first_came;
    second_came = more c.second c.second_came;
    cut = subst (λ (b : Bool). CutBy b lacking c.first (c.second ++ piece)) is (subst (λ (b : Bool). CutBy b lacking c.first c.second) (sym is) c.cut);
  }

  -- the first goes on
  pub first_more : (Next : List ℕ → Type 0) (new : Option (Bor (List ℕ))) → false ≡ ended_yet → ((text : List ℕ) → First text → Next (text ++ piece)) → ((text : List ℕ) → NoEndYet text lacking → NoEndYet (text ++ piece) new) → (input : List ℕ) → CameAs First Second ended_yet lacking input → CameAs Next Second ended_yet new (input ++ piece)
  first_more Next new is more yet input c =
      let open_yet : NoEndYet c.first lacking × (c.second ≡ []) = subst (λ (b : Bool). CutBy b lacking c.first c.second) (sym is) c.cut in
      let alone : input ≡ c.first = c.parts ∙ (ap (λ (t : List ℕ). c.first ++ t) open_yet.1 ∙ append-nil c.first) in
      record {
        first = c.first ++ piece;
        second = c.second;
        parts = ap (λ (t : List ℕ). t ++ piece) alone ∙ (sym (append-nil (c.first ++ piece)) ∙ ap (λ (t : List ℕ). (c.first ++ piece) ++ t) (sym open_yet.1));
        first_came = more c.first c.first_came;
        second_came = c.second_came;
        cut = subst (λ (b : Bool). CutBy b new (c.first ++ piece) c.second) is (yet c.first open_yet.0, open_yet.1);
      }

  -- the first ends, and the second begins
  pub first_ends : (Next After : List ℕ → Type 0) (new : Option (Bor (List ℕ))) (front back : List ℕ) → false ≡ ended_yet → piece ≡ front ++ back → ((text : List ℕ) → First text → Next (text ++ front)) → ((text : List ℕ) → Second text → After (text ++ back)) → ((text : List ℕ) → NoEndYet text lacking → EndsThere (text ++ front)) → (input : List ℕ) → CameAs First Second ended_yet lacking input → CameAs Next After true new (input ++ piece)
  first_ends Next After new front back is parts more after ends input c =
      let open_yet : NoEndYet c.first lacking × (c.second ≡ []) = subst (λ (b : Bool). CutBy b lacking c.first c.second) (sym is) c.cut in
      let alone : input ≡ c.first = c.parts ∙ (ap (λ (t : List ℕ). c.first ++ t) open_yet.1 ∙ append-nil c.first) in
      record {
        first = c.first ++ front;
        second = c.second ++ back;
        parts =
            ap (λ (t : List ℕ). t ++ piece) alone
            ∙ (ap (λ (t : List ℕ). c.first ++ t) parts
            ∙ (sym (append_assoc c.first front back) ∙ ap (λ (t : List ℕ). (c.first ++ front) ++ (t ++ back)) (sym open_yet.1)));
        first_came = more c.first c.first_came;
        second_came = after c.second c.second_came;
        cut = ends c.first open_yet.0;
      }

-- all came
pub cut_at : (ended_yet : Bool) (lacking : Option (Bor (List ℕ))) (input first second : List ℕ) → input ≡ first ++ second → CutBy ended_yet lacking first second → IsCutAtEnd input first second
cut_at true lacking input first second parts c = inl (record { lines = c.lines; before = c.before; first_text = c.whole; parts = parts })
cut_at false lacking input first second parts c =
    let alone : input ≡ first = parts ∙ (ap (λ (t : List ℕ). first ++ t) c.1 ∙ append-nil first) in
    inr (record {
      lines = c.0.lines;
      unended = c.0.unended;
      whole = alone ∙ c.0.whole;
      last = c.0.last;
      before = c.0.before;
      first_text = sym alone;
      second_text = c.1;
    })

-- nothing came
pub nothing_yet : (fresh : Option (Bor (List ℕ))) → IsLacking [] fresh → NoEndYet [] fresh
nothing_yet fresh lacks = record { lines = []; unended = []; whole = refl; last = tt; before = record { plain = tt; none = tt }; lacks = lacks }

-- ---- what a line lacks of `end`

pub completed : (start rest wanted : List ℕ) (Is : Type 0) → (Is → rest ≡ wanted) × (rest ≡ wanted → Is) → start ++ wanted ≡ codes "end" → (Is → start ++ rest ≡ codes "end") × (start ++ rest ≡ codes "end" → Is)
completed start rest wanted Is h e = (
  λ is. ap (λ (t : List ℕ). start ++ t) (h.0 is) ∙ e,
  λ same. h.1 (append_cancel_left start rest wanted (same ∙ sym e)),
)

pub lacks_rest : (start rest after wanted : List ℕ) → wanted ≡ rest ++ after → start ++ wanted ≡ codes "end" → (start ++ rest) ++ after ≡ codes "end"
lacks_rest start rest after wanted is e = append_assoc start rest after ∙ (ap (λ (t : List ℕ). start ++ t) (sym is) ∙ e)

pub lacks_no_more : (start rest wanted : List ℕ) → ((after : List ℕ) → wanted ≢ rest ++ after) → start ++ wanted ≡ codes "end" → (after : List ℕ) → (start ++ rest) ++ after ≢ codes "end"
lacks_no_more start rest wanted other e after same = other after (append_cancel_left start wanted (rest ++ after) (e ∙ (sym same ∙ append_assoc start rest after)))

pub lacks_nothing : (start rest : List ℕ) → ((more : List ℕ) → start ++ more ≢ codes "end") → (after : List ℕ) → (start ++ rest) ++ after ≢ codes "end"
lacks_nothing start rest never after same = never (rest ++ after) (sym (append_assoc start rest after) ∙ same)

pub lacking_by : (start rest wanted : List ℕ) (found : Option (Bor (List ℕ))) → MatchOption found ((after : List ℕ) → wanted ≢ rest ++ after) (λ after. wanted ≡ rest ++ after.now) → start ++ wanted ≡ codes "end" → IsLacking (start ++ rest) found
lacking_by start rest wanted None h e = lacks_no_more start rest wanted h e
lacking_by start rest wanted (Some after) h e = lacks_rest start rest after.now wanted h e

pub split_parts : (piece front back : List ℕ) (k : ℕ) → front ≡ take k piece → back ≡ drop k piece → piece ≡ front ++ back
split_parts piece front back k f b = rw (f, b) (sym (take-append-drop k piece))

pub passes_line : (input front line : List ℕ) (lacking fresh : Option (Bor (List ℕ))) → NoEndYet (input ++ front) lacking → IsLine line → ((start : List ℕ) → IsLacking start lacking → start ++ line ≢ codes "end") → IsLacking [] fresh → NoEndYet (input ++ (front ++ (line ++ 10 ∷ []))) fresh
passes_line input front line lacking fresh y plain other lacks = subst (λ (t : List ℕ). NoEndYet t fresh) (append_assoc input front (line ++ 10 ∷ [])) (line_passed (input ++ front) lacking fresh line y plain other lacks)

pub passes_rest : (input piece front rest : List ℕ) (lacking new : Option (Bor (List ℕ))) → piece ≡ front ++ rest → NoEndYet (input ++ front) lacking → IsLine rest → ((start : List ℕ) → IsLacking start lacking → IsLacking (start ++ rest) new) → NoEndYet (input ++ piece) new
passes_rest input piece front rest lacking new parts y plain lacks =
    let more : NoEndYet ((input ++ front) ++ rest) new = line_goes_on (input ++ front) lacking new rest y plain lacks in
    subst (λ (t : List ℕ). NoEndYet t new) (append_assoc input front rest ∙ ap (λ (t : List ℕ). input ++ t) (sym parts)) more
