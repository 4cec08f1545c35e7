use Rattle.std.proofs.Common.{◌≡◌, ◌<◌, ◌++◌, get_or, length, refl, arith, rules}
use Rattle.std.proofs.lemmas.Grind.{common_steps}
use Rattle.text_lines.proofs.Joining.{took_moved}
use Rattle.text_lines.proofs.parts.add_part.Goals as goal

pub returns-clause-taken : goal.returns-clause-taken
returns-clause-taken g c =
    let m = g.F.LineForm in
    let old = c.args.items.now.items in
    let new = c.append.new.self.items in
    let part = c.args.part in
    let first = c.in-Some.first.now in
    let shown = rw c.deref.ensures.value at c.in-Some.ensures.item in
    let some : 0 < length part.items.items = search (rules, shown.0) in
    let is : first ≡ get_or part.items.items 0 first = shown.1 in
    let may : m.MayFollow old first = rw c.deref-else-part-most.ensures.value at c.if-not-may_follow.ensures refl in
    let grown : new ≡ old ++ part.items.items = grind (arith, common_steps, c.append.ensures.items, c.if-is_err.ensures.value) in
    took_moved m.spell (m.Fits c.args.form.now) m.MayFollow m.by_last old part.items.items new first c.args.bytes.now part.rest.now part.count c.requires.part some is may grown
