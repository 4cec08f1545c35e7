use Rattle.std.proofs.Common.{◌≡◌, ◌*◌, ◌/◌, ◌<◌, false, length, get_or, min, refl, sym, ◌∙◌, arith}
use Rattle.std.proofs.lemmas.Grind.{div_ceil_times}
use Rattle.std.proofs.lemmas.List.{length-set, get_or_default}
use Rattle.page_store.specs.inner.Blocks.{block}
use Rattle.page_store.proofs.Blocks.{block_done, cleared_none, cleared_same}
use Rattle.page_store.proofs.cells.clear_touched.Goals as goal
use Rattle.page_store.proofs.cells.clear_touched.Goals.{then-index, else-index}

pub loop-at-init : goal.loop-at-init
loop-at-init c = record {
  touched = c.requires.touched;
  marks = refl;
  cleared = cleared_none c.args.values.now.items c.args.from (min (block * (c.args.from / block)) c.args.to) (omega arith);
}

pub loop-at-preserved : goal.loop-at-preserved
loop-at-preserved c =
    let now = c.loop-at in
    let is = now.invariant in
    elim c.if-index.branch [
      | then-index w ↦
          let ends : block * now.at < c.args.to = omega (arith, c.loop-at-test.true, c.div_ceil-at-end.ensures, (div_ceil_times c.args.to block (omega arith)).1) in
          let done = block_done c.args.values.now.items now.values.items w.clear.new.items.items now.touched.items c.args.from c.args.to w.max-first.result w.min-past.result now.at c.requires.order (omega (arith, c.requires.within, is.cleared.len)) (omega (arith, now.auto.at)) ends w.max-first.ensures w.min-past.ensures is.touched is.cleared w.clear.ensures in
          rw (w.values-is, w.touched-is) (record { touched = done.0; marks = length-set _ _ _ ∙ is.marks; cleared = done.1 })
      | else-index w ↦
          let lt : now.at < length now.touched.items = omega (arith, c.loop-at-test.true, c.div_ceil-at-end.ensures, (div_ceil_times c.args.to block (omega arith)).1, is.touched.count, c.requires.within, is.cleared.len) in
          let unset : get_or now.touched.items now.at false ≡ false = get_or_default now.touched.items now.at false c.index.result.now lt ∙ sym c.index.ensures ∙ w.if-index.false in
          rw (w.values-is, w.touched-is) (record { touched = is.touched; marks = is.marks; cleared = cleared_same c.args.values.now.items now.values.items now.touched.items c.args.from c.args.to now.at is.touched unset is.cleared })
    ]
