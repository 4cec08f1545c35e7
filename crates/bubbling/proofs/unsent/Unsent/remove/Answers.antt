use Rattle.std.proofs.Common.{◌≡◌, ◌<◌, true, false, length, get_or, sym, ap, ◌∙◌, arith}
use Rattle.std.proofs.lemmas.List.{length-set, get_or_read}
use Rattle.bubbling.specs.declared.jumps.Sweep.TheVariants.{Up, Down}
use Rattle.bubbling.proofs.Jumping.{jumps_without}
use Rattle.bubbling.proofs.Sizes.{size_set}
use Rattle.bubbling.proofs.unsent.Unsent.remove.Goals as goal

pub overflow_sub-self : goal.overflow_sub-self
overflow_sub-self c =
    let i = c.self.inside in
    let lt : c.index-at.result < length i.marks.items = omega (arith, ap length c.self.view_is, c.index-at.ensures.value, c.requires) in
    let is : get_or i.marks.items c.index-at.result false ≡ true = sym (get_or_read i.marks.items c.index-at.result c.index-was_there.result.now lt c.index-was_there.ensures false) ∙ c.if-was_there.true in
    (size_set i.marks.items c.index-at.result i.left lt is c.self.invariant.1).0

pub invariant_of-self : goal.invariant_of-self
invariant_of-self c =
    let i = c.self.inside in
    let lt : c.index-at.result < length i.marks.items = omega (arith, ap length c.self.view_is, c.index-at.ensures.value, c.requires) in
    let is : get_or i.marks.items c.index-at.result false ≡ true = sym (get_or_read i.marks.items c.index-at.result c.index-was_there.result.now lt c.index-was_there.ensures false) ∙ c.if-was_there.true in (
      omega (arith, c.self.invariant.0, length-set i.marks.items c.index-at.result false),
      (size_set i.marks.items c.index-at.result i.left lt is c.self.invariant.1).1,
      jumps_without Up i.marks.items i.up.items c.index-at.result lt c.self.invariant.2,
      jumps_without Down i.marks.items i.down.items c.index-at.result lt c.self.invariant.3,
    )
