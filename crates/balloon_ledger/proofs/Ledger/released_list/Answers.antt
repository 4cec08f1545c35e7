use Rattle.std.proofs.Common.{◌≡◌, ◌+◌, [], ◌∷◌, ◌++◌, cond, subst, arith}
use Rattle.std.proofs.lemmas.Grind.{common_steps}
use Rattle.balloon_ledger.specs.Released.{Marks, released, pages_below}
use Rattle.balloon_ledger.proofs.Marking.{pages_more_marked}
use Rattle.balloon_ledger.proofs.Ledger.released_list.Goals as goal
use Rattle.balloon_ledger.proofs.Ledger.released_list.Goals.{then-index+in_ok-push, else-index}

pub loop-number-preserved : goal.loop-number-preserved
loop-number-preserved c =
    let i = c.self.inside in
    let n = c.loop-number.number in
    let more : pages_below (n + 1) (released c.args.self.now) ≡ pages_below n (released c.args.self.now) ++ cond c.index.result.now (n ∷ []) [] =
    subst (λ (m : Marks). pages_below (n + 1) (released m) ≡ pages_below n (released m) ++ cond c.index.result.now (n ∷ []) []) c.self.view_is
    (pages_more_marked (record { geometry = i.geometry; marks = i.marks.items }) n c.index.result.now c.self.invariant.0 (omega arith) c.index.ensures) in
    elim c.if-index.branch [
      | then-index+in_ok-push w ↦ grind (arith, common_steps)
      | else-index w ↦ grind (arith, common_steps)
    ]
