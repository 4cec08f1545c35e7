use Rattle.std.proofs.Common.{List, length, ap, arith}
use Rattle.migration_types.specs.declared.records.GuestRec.{GuestRec}
use Rattle.page_facts.proofs.Reading.{read_at}
use Rattle.completeness.proofs.Walking.{ledger_on}
use Rattle.completeness.proofs.pages.ledger_at_halt.Goals as goal

pub loop-n-preserved : goal.loop-n-preserved
loop-n-preserved c =
    let s = c.args.session.now in
    let n = c.loop-n.n in
    let rec = c.index-guest-n.result in
    let within = c.halt_place-n-end.ensures.within in
    let all = ap (λ (xs : List GuestRec). length xs) c.guest-guest.ensures in
    let is = read_at c.guest-guest.result.now s.guest n rec c.guest-guest.ensures (omega (arith, c.loop-n-test.true, within)) c.index-guest-n.is in
    ledger_on s n rec c.loop-n.ledger c.take_change.new.ledger is c.loop-n.invariant c.take_change.ensures
