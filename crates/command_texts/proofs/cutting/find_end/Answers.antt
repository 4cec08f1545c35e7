use Rattle.std.proofs.Common.{List, ℕ, [], ◌∷◌, ◌++◌, refl, sym, subst, append_assoc, arith}
use Rattle.std.proofs.lemmas.List.{append-nil}
use Rattle.command_texts.specs.inner.Ends.{NoEndYet, EndsThere}
use Rattle.command_texts.proofs.Cuts.{line_ends, parts_yet, passes_line, passes_rest, take_front}
use Rattle.command_texts.proofs.cutting.find_end.Goals as goal

pub loop-line-init : goal.loop-line-init
loop-line-init c = record { front = []; parts = refl; yet = λ input y. subst (λ (t : List ℕ). NoEndYet t c.args.lacking.now) (sym (append-nil input)) y }

pub loop-line-preserved : goal.loop-line-preserved
loop-line-preserved c =
    let i = c.loop-line.invariant in
    let line = c.in-Some.line.now in
    let after = c.in-Some.after.now in
    record {
      front = i.front ++ (line ++ 10 ∷ []);
      parts = parts_yet c.args.piece.now i.front c.loop-line.rest.now line after i.parts c.in-Some.ensures;
      yet = λ input y. passes_line input i.front line c.loop-line.lacking _ (i.yet input y) c.in-Some.ensures.plain (λ start lacks e. let t = (c.if-completes.ensures start lacks).1 e in cc) refl;
    }

pub returns-then-completes-clause-found : goal.returns-then-completes-clause-found
returns-then-completes-clause-found c =
    let i = c.loop-line.invariant in
    let line = c.in-Some.line.now in
    let after = c.in-Some.after.now in
    let front = i.front ++ (line ++ 10 ∷ []) in
    let parts = parts_yet c.args.piece.now i.front c.loop-line.rest.now line after i.parts c.in-Some.ensures in (
      omega arith,
      λ input y. subst (λ (t : List ℕ). EndsThere (input ++ t)) (sym (take_front front after c.args.piece.now parts))
          (subst EndsThere (append_assoc input i.front (line ++ 10 ∷ [])) (line_ends (input ++ i.front) c.loop-line.lacking line (i.yet input y) (λ start lacks. (c.if-completes.ensures start lacks).0 refl))),
    )

pub returns-clause-none : goal.returns-clause-none
returns-clause-none c = λ input y. let i = c.loop-line.invariant in passes_rest input c.args.piece.now i.front c.loop-line.rest.now c.loop-line.lacking _ i.parts (i.yet input y) c.in_default.ensures c.lacking_after.ensures
