use Rattle.std.proofs.Common.{ℕ, ◌+◌, List, refl, ap, ◌∙◌}
use Rattle.migration_types.specs.Memory.{Memory, with_content}
use Rattle.page_store.specs.Frames.{memory_of}
use Rattle.page_facts.proofs.Begun.{content_at, content_off}
use Rattle.page_facts.proofs.range_start.give.Goals as goal

pub returns-in_default : goal.returns-in_default
returns-in_default c =
    let g = c.args.range.now in
    let p = c.args.given.now in
    record {
      first = refl;
      late = refl;
      seen = refl;
      geometry = refl;
      each = λ k lt. content_off p.page (g.first + k) p.cells (memory_of g.cells k) (c.in_default.ensures.each k lt);
    }

pub returns : goal.returns
returns c =
    let g = c.args.range.now in
    let p = c.args.given.now in
    let m = memory_of g.cells in
    record {
      first = refl;
      late = refl;
      seen = refl;
      geometry = c.install.ensures.geometry;
      each = λ k lt.
          ap (λ (f : Memory). f k) c.install.ensures.memory_is
          ∙ ap (λ i. with_content i c.as_slice.result.now m k) c.new.ensures
          ∙ ap (λ (xs : List ℕ). with_content c.in-Some.index xs m k) c.as_slice.ensures
          ∙ content_at p.page g.first c.in-Some.index k p.cells m c.in-Some.ensures.is_page;
    }
