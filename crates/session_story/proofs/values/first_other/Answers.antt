use Rattle.std.proofs.Common.{◌≡◌, ℕ, ◌+◌, ◌<◌, ◌≤◌, ◌⊎◌, inl, inr, List, ap, sym, ◌∙◌, arith}
use Rattle.std.specs.Prelude.{slice_index}
use Rattle.std.proofs.lemmas.Bool.{cases_lt}
use Rattle.migration_types.specs.Extents.{Extent}
use Rattle.session_story.specs.inner.Cells.{AreSame}
use Rattle.session_story.proofs.values.first_other.Goals as goal

one_more : (content : List ℕ) (cells : ℕ → ℕ) (n : ℕ) → AreSame content cells n → slice_index content n ≡ cells n → AreSame content cells (n + 1)
one_more content cells n same here c lt = go (cases_lt c n)
  where
    go : (c < n) ⊎ (n ≤ c) → slice_index content c ≡ cells c
    go (inl l) = same c l
    go (inr ge) =
        let is : c ≡ n = omega arith in
        ap (λ k. slice_index content k) is ∙ here ∙ ap cells (sym is)

pub returns-then-contents-index : goal.returns-then-contents-index
returns-then-contents-index c =
    record {
      below = omega (arith, c.loop-index-test.true, c.cells-count.ensures, ap (λ (e : Extent). e.cells) c.geometry.ensures);
      differs = λ same. c.if-contents-index.true same;
      same_before = c.loop-index.invariant;
    }

pub loop-index-preserved : goal.loop-index-preserved
loop-index-preserved c = one_more c.args.contents.now (slice_index c.args.cells.now) c.loop-index.index c.loop-index.invariant c.if-contents-index.false
