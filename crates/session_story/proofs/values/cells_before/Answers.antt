use Rattle.std.proofs.Common.{List, length, ap, arith}
use Rattle.migration_types.specs.declared.records.GuestRec.{GuestRec}
use Rattle.audit_model.specs.Flat.{flat}
use Rattle.page_facts.proofs.Reading.{read_at}
use Rattle.session_story.proofs.Setting.{cells_on}
use Rattle.session_story.proofs.values.cells_before.Goals as goal

pub loop-n-preserved : goal.loop-n-preserved
loop-n-preserved c =
    let s = c.args.session.now in
    let page = c.args.page in
    let n = c.loop-n.n in
    let rec = c.index-guest-n.result in
    let all = ap (λ (xs : List GuestRec). length xs) c.guest-guest.ensures in
    let is = read_at c.guest-guest.result.now s.guest n rec c.guest-guest.ensures (omega (arith, all, c.loop-n-test.true, c.requires.within)) c.index-guest-n.is in
    cells_on s page n s.geometry.cells rec c.change.new.cells.items is (c.change.ensures (flat s n page) s.geometry.cells c.loop-n.invariant)
