use Rattle.std.proofs.Common.{◌+◌, ◌*◌, ◌≤◌, length, refl, ap, ◌∙◌, arith}
use Rattle.std.proofs.lemmas.Grind.{div_ceil_times}
use Rattle.page_store.specs.inner.Blocks.{block}
use Rattle.page_store.proofs.Blocks.{put_length, put_outside, touched_put}
use Rattle.page_store.proofs.cells.Cells.put.Goals as goal

pub overflow_add-to : goal.overflow_add-to
overflow_add-to c = omega (arith, c.requires, ap length c.self.view_is, c.self.inside.values.small, c.self.inside.values.ok)

pub invariant_of-self : goal.invariant_of-self
invariant_of-self c =
    let i = c.self.inside in
    let content = c.args.content.now in
    let within : c.args.from + length content ≤ length i.values.items = omega (arith, c.requires, ap length c.self.view_is) in
    let ends : c.args.from + length content ≤ block * c.div_ceil.result = omega (arith, c.div_ceil.ensures, (div_ceil_times (c.args.from + length content) block (omega arith)).0) in
    touched_put i.values.items c.put.new.items.items i.touched.items c.touch.new.marks.items c.args.from (c.args.from + length content) _ _ (omega arith) ends (ap length c.put.ensures ∙ put_length i.values.items content c.args.from (length content) refl within) c.touch.ensures.len (put_outside i.values.items c.put.new.items.items content c.args.from within c.put.ensures) c.touch.ensures.unset c.self.invariant
