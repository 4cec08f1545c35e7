use Rattle.std.proofs.Common.{List, ℕ, length, sym, ap, ◌∙◌, arith}
use Rattle.std.proofs.lemmas.List.FromFn.{length-map-range_with_len}
use Rattle.migration_types.specs.Extents.{Extent}
use Rattle.migration_types.specs.Memory.{page_of, with_content}
use Rattle.page_store.specs.Frames.{memory_of, IsWith}
use Rattle.merge_runs.proofs.Leaving.{copied_more, copied_all}
use Rattle.merge_runs.proofs.unmoved.copy_of.Goals as goal

pub install-requires-clause-content : goal.install-requires-clause-content
install-requires-clause-content c =
    let frames = c.args.frames.now in
    ap (λ (xs : List ℕ). length xs) c.page.ensures
    ∙ length-map-range_with_len (memory_of frames c.new-page.result) 0 frames.geometry.cells
    ∙ sym (ap (λ (e : Extent). e.cells) c.loop-index.invariant.geometry)

pub loop-index-preserved : goal.loop-index-preserved
loop-index-preserved c =
    let frames = c.args.frames.now in
    let copy = c.loop-index.copy in
    let content = c.page.result.now in
    let is = c.page.ensures ∙ ap (λ p. page_of frames.geometry.cells (memory_of frames) p) c.new-page.ensures in
    let on : IsWith copy c.install.new.self (with_content c.loop-index.index content (memory_of copy)) = record {
      geometry = c.install.ensures.geometry;
      memory_is = c.install.ensures.memory_is ∙ ap (λ p. with_content p content (memory_of copy)) c.new-page.ensures;
    } in
    record {
      geometry = c.install.ensures.geometry ∙ c.loop-index.invariant.geometry;
      copied = copied_more frames copy c.install.new.self c.loop-index.index content is on c.loop-index.invariant.copied;
    }

pub returns : goal.returns
returns c =
    let pages = ap (λ (e : Extent). e.pages) c.geometry-geometry.ensures in
    copied_all c.args.frames.now c.loop-index.copy c.loop-index.index c.loop-index.invariant.geometry (omega (arith, c.loop-index-test.false, c.pages-index-end.ensures, pages)) c.loop-index.invariant.copied
