use Rattle.std.proofs.Common.{◌+◌, refl, sym, ◌∙◌, arith, length}
use Rattle.page_facts.proofs.Reading.{read_at}
use Rattle.session_story.proofs.Scanning.{none_yet, this_one, stays}
use Rattle.session_story.proofs.scans.first_of.Goals as goal

pub returns-then-holds : goal.returns-then-holds
returns-then-holds g c =
    let log = c.args.log.now in
    let n = c.loop-n.n in
    let test = g.Q.RecordQuestion.holds c.args.question.now c.args.session.now in
    let r = c.index-log-n.result in
    let is = read_at log log n r refl c.loop-n-test.true c.index-log-n.is in
    let here = this_one test log n r is (sym c.holds.ensures ∙ c.if-holds.true) c.loop-n.invariant in
    sym (stays test log (n + 1) n (length log) here (omega (arith, c.loop-n-test.true)))

pub loop-n-preserved : goal.loop-n-preserved
loop-n-preserved g c =
    let log = c.args.log.now in
    let n = c.loop-n.n in
    let test = g.Q.RecordQuestion.holds c.args.question.now c.args.session.now in
    let r = c.index-log-n.result in
    let is = read_at log log n r refl c.loop-n-test.true c.index-log-n.is in
    none_yet test log n r is (sym c.holds.ensures ∙ c.if-holds.false) c.loop-n.invariant
