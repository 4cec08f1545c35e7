-- What one more line leaves of a text that is being made.
use Rattle.std.proofs.Common.{◌≡◌, ℕ, ◌+◌, List, [], ◌∷◌, ◌++◌, map, refl, sym, ap, subst, ◌∙◌, append_assoc}
use Rattle.std.proofs.lemmas.List.{append-nil}
use Rattle.std.specs.Prelude.{Result, Ok, Err, OnOk, IsOk}
use Rattle.std.specs.Fmt.{decimal}
use Rattle.text_lines.specs.Text.{ended}
use Rattle.text_lines.proofs.Cut.{ended-push}
use Rattle.session_grammar.specs.declared.stage.Stage.{Stage}
use Rattle.session_grammar.specs.inner.Held.{part_onto}
use Rattle.session_grammar.proofs.Laws.{held_line}
use Rattle.recordings.specs.inner.Held.{SessionDraft, Part, held_onto, came_at, announced_at}
use Rattle.walked_sessions.specs.declared.text.ListKind.{ListKind}
use Rattle.walked_sessions.specs.declared.text.Text.{Text}
use Rattle.walked_sessions.specs.inner.Made.{stage_of, AreCounts, Lives, Stands, IsSame, lane_count}

pub ok_then : {T E P Q : Type 0} (r : Result T E) → (P → Q) → OnOk r P → OnOk r Q
ok_then (Ok x) f p = f p
ok_then (Err e) f p = tt

pub ok_at : {T E P : Type 0} (r : Result T E) (x : T) → r ≡ Ok x → OnOk r P → P
ok_at (Ok y) x is p = p
ok_at (Err e) x is p = absurd (cc)

pub ok_of : {T E P : Type 0} (r : Result T E) → IsOk r → OnOk r P → P
ok_of (Ok y) is p = p
ok_of (Err e) is p = absurd (cc)

line_end : (held : List (List ℕ)) (line : List ℕ) → ended (held ++ line ∷ []) ≡ ended held ++ (line ++ 10 ∷ [])
line_end held line = sym (append-nil (ended (held ++ line ∷ []))) ∙ ended-push held line []

-- the text goes on with a line
pub text_more : (before old new line : List ℕ) (stage next : Stage) (d e : SessionDraft) → before ++ old ≡ ended (held_onto stage d []) → new ≡ old ++ (line ++ 10 ∷ []) → held_onto next e [] ≡ held_onto stage d (line ∷ []) → before ++ new ≡ ended (held_onto next e [])
text_more before old new line stage next d e is more held =
    ap (λ (xs : List ℕ). before ++ xs) more
    ∙ sym (append_assoc before old (line ++ 10 ∷ []))
    ∙ ap (λ (xs : List ℕ). xs ++ (line ++ 10 ∷ [])) is
    ∙ sym (line_end (held_onto stage d []) line)
    ∙ sym (ap ended (held ∙ held_line stage d (held_onto stage d []) line refl))

-- the first line of a list, of which nothing was written
pub fresh_onto : {X : Type 0} (key : List ℕ) (spell : X → List ℕ) (part : Part X) (n : ℕ) → part.items ≡ [] → part.count ≡ n → part_onto key spell part [] ≡ (key ++ decimal n) ∷ []
fresh_onto {X} key spell part n none count = ap (λ (k : ℕ). (key ++ decimal k) ∷ (map spell part.items ++ [])) count ∙ ap (λ (xs : List X). (key ++ decimal n) ∷ (map spell xs ++ [])) none

pub counts_kept : (old new : Text) (d : SessionDraft) → AreCounts old d → IsSame old new → AreCounts new d
counts_kept old new d is same = record {
  version = is.version ∙ sym same.version;
  init = is.init ∙ sym same.init;
  guest = is.guest ∙ ap (λ f. f.guest) (sym same.front);
  source = is.source ∙ ap (λ f. f.source) (sym same.front);
  link = is.link ∙ ap (λ f. f.link) (sym same.front);
  lane = is.lane ∙ ap (λ v. lane_count v old.front.lane) (sym same.version) ∙ ap (λ f. lane_count new.version f.lane) (sym same.front);
  pager = is.pager ∙ ap (λ f. f.pager) (sym same.front);
}

-- the same of a text at this list
pub record StandsAt (before : List ℕ) (t : Text) (at : ListKind) (d : SessionDraft) : Type 0 where
  pub counts : AreCounts t d
  pub lives : Lives at d
  pub came : t.left + came_at (stage_of at) d ≡ announced_at (stage_of at) d
  pub text : before ++ t.bytes.items ≡ ended (held_onto (stage_of at) d [])

pub stands_at : (before : List ℕ) (t : Text) (at : ListKind) (d : SessionDraft) → t.section ≡ at → Stands before t d → StandsAt before t at d
stands_at before t at d is s = record {
  counts = s.counts;
  lives = subst (λ (x : ListKind). Lives x d) is s.lives;
  came = subst (λ (x : ListKind). t.left + came_at (stage_of x) d ≡ announced_at (stage_of x) d) is s.came;
  text = subst (λ (x : ListKind). before ++ t.bytes.items ≡ ended (held_onto (stage_of x) d [])) is s.text;
}

pub stands_there : (before : List ℕ) (t : Text) (at : ListKind) (d : SessionDraft) → t.section ≡ at → StandsAt before t at d → Stands before t d
stands_there before t at d is s = record {
  counts = s.counts;
  lives = subst (λ (x : ListKind). Lives x d) (sym is) s.lives;
  came = subst (λ (x : ListKind). t.left + came_at (stage_of x) d ≡ announced_at (stage_of x) d) (sym is) s.came;
  text = subst (λ (x : ListKind). before ++ t.bytes.items ≡ ended (held_onto (stage_of x) d [])) (sym is) s.text;
}
