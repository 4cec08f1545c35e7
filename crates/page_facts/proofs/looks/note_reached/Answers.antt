use Rattle.std.proofs.Common.{List, length, ap, arith}
use Rattle.migration_types.specs.declared.records.PagerRec.{PagerRec}
use Rattle.page_facts.proofs.Reading.{read_at}
use Rattle.page_facts.proofs.Looking.{noted_more}
use Rattle.page_facts.proofs.looks.note_reached.Goals as goal

pub loop-place-preserved : goal.loop-place-preserved
loop-place-preserved c =
    let s = c.args.session.now in
    let place = c.loop-place.place in
    let rec = c.index-pager-place.result in
    let all = ap (λ (xs : List PagerRec). length xs) c.pager-pager.ensures in
    let is = read_at c.pager-pager.result.now s.pager place rec c.pager-pager.ensures (omega (arith, all, c.loop-place-test.true, c.requires.within)) c.index-pager-place.is in
    noted_more s c.args.n place rec c.loop-place.first c.note_placed.new.first is c.loop-place.invariant c.note_placed.ensures
