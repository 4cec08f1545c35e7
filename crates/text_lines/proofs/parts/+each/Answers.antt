use Rattle.std.proofs.Common.{rules, arith, ◌≡◌, length}
use Rattle.std.proofs.lemmas.Bool.Decides.{nat_tests}
use Rattle.std.proofs.lemmas.List.{nil_from_length}
use Rattle.text_lines.proofs.Joining.{took_on, took_before}
use Rattle.text_lines.proofs.parts.+each.Goals as goal

pub returns-then-is_empty-clause-taken : goal.returns-then-is_empty-clause-taken
returns-then-is_empty-clause-taken g t c =
    let m = g.F.LineForm in
    let rest = c.join_mut-part.result.1.0.now in
    let empty : length rest ≡ 0 = grind (arith, nat_tests, c.if-is_empty.ensures) in
    took_on m.spell (m.Fits c.args.form.now) m.MayFollow c.args.items.now.items _ c.add_part-more.new.items.items c.args.bytes.now c.split_at.result.0.now c.split_at.result.1.now rest c.add_part-more.result.0.now c.join_mut-part.result.1.1 c.add_part-more.result.1
    (search rules) (nil_from_length rest empty) c.add_part-more.ensures.taken (search rules)

pub returns-clause-taken : goal.returns-clause-taken
returns-clause-taken g t c =
    let m = g.F.LineForm in
    rw c.split_at-2.ensures.back
    (took_before m.spell (m.Fits c.args.form.now) m.MayFollow c.args.items.now.items _ c.args.bytes.now c.split_at.result.0.now c.split_at.result.1.now c.join_mut-part.result.1.0.now c.join_mut-part.result.1.1
    (search rules) (search rules))
