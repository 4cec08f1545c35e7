use Rattle.std.proofs.Common.{◌+◌, List, Option, length, sym, ap, subst, arith}
use Rattle.migration_types.specs.declared.records.GuestRec.{GuestRec}
use Rattle.page_facts.proofs.Reading.{read_at}
use Rattle.session_story.proofs.Looking.{IsBest, best_next}
use Rattle.session_story.specs.declared.looks.Look.{Look}
use Rattle.session_story.proofs.looks.greatest_look.Goals as goal

pub loop-n-preserved : goal.loop-n-preserved
loop-n-preserved c =
    let s = c.args.session.now in
    let n = c.loop-n.n in
    let rec = c.index-guest-n.result in
    let all = ap (λ (xs : List GuestRec). length xs) c.guest-guest.ensures in
    let is = read_at c.guest-guest.result.now s.guest n rec c.guest-guest.ensures (omega (arith, all, c.loop-n-test.true, c.requires)) c.index-guest-n.is in
    subst (λ (o : Option Look). IsBest s (n + 1) o) (sym c.looked-best.ensures) (best_next s n rec is c.loop-n.best c.loop-n.invariant)
