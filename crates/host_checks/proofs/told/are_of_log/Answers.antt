use Rattle.std.proofs.Common.{◌≡◌, List, suc, take, drop, sym, subst}
use Rattle.std.proofs.lemmas.List.{take_all}
use Rattle.migration_types.specs.declared.records.GuestRec.{GuestRec}
use Rattle.host_checks.specs.Outcomes.{AreOfLog}
use Rattle.host_checks.specs.inner.Told.{AreTold}
use Rattle.host_checks.proofs.Telling.{told_or_not, cut_at}
use Rattle.host_checks.proofs.told.are_of_log.Goals as goal

pub returns-then-not-takes : goal.returns-then-not-takes
returns-then-not-takes c = λ are.
    let log = c.args.log.now in
    let n = c.loop-rec.rec-index in
    c.if-not-takes.ensures.told (take n log) (drop (suc n) log) c.loop-rec.invariant.1
    (subst (λ (xs : List GuestRec). AreOfLog xs c.args.transcripts.now) (cut_at log n c.rec-item.result c.loop-rec-test.true c.rec-item.is) are)

pub returns : goal.returns
returns c =
    let told = c.loop-rec.told.items in
    let log = c.args.log.now in
    let whole : take c.loop-rec.rec-index log ≡ log = take_all c.loop-rec.rec-index log c.loop-rec-test.false in
    let every = subst (λ (xs : List GuestRec). AreTold c.args.transcripts.now told xs) whole c.loop-rec.invariant.1 in
    told_or_not c.are_all_told.result c.args.transcripts.now c.deref.result.now log (rw c.deref.ensures.value every) c.are_all_told.ensures
