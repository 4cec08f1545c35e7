use Rattle.std.proofs.Common.{◌≡◌, ◌+◌, ◌-◌, refl, sym, ap, ◌∙◌, arith}
use Rattle.page_facts.proofs.Reading.{read_at}
use Rattle.session_story.specs.Scans.{last_before}
use Rattle.session_story.proofs.Scanning.{last_here, last_same}
use Rattle.session_story.proofs.scans.last_of.Goals as goal

pub offset_bounds-log-left : goal.offset_bounds-log-left
offset_bounds-log-left g c = omega (arith, c.loop-left.invariant.within, c.requires.within)

pub bounds-log-left : goal.bounds-log-left
bounds-log-left g c = omega (arith, c.loop-left.invariant.within, c.loop-left-test.true, c.requires.within)

pub holds-requires : goal.holds-requires
holds-requires g c = omega (arith, c.loop-left.invariant.within, c.loop-left-test.true, c.requires.within, c.requires.few)

pub overflow_cast-result : goal.overflow_cast-result
overflow_cast-result g c = omega (arith, c.loop-left.invariant.within, c.loop-left-test.true, c.requires.within, c.requires.few)

pub returns-then-holds : goal.returns-then-holds
returns-then-holds g c =
    let log = c.args.log.now in
    let n = c.loop-left.left - 1 in
    let test = g.Q.RecordQuestion.holds c.args.question.now c.args.session.now in
    let r = c.index-log-left.result in
    let is = read_at log log n r refl (omega (arith, c.loop-left.invariant.within, c.loop-left-test.true, c.requires.within)) c.index-log-left.is in
    let one : n + 1 ≡ c.loop-left.left = omega (arith, c.loop-left-test.true) in
    sym (last_here test log n r is (sym c.holds.ensures ∙ c.if-holds.true)) ∙ ap (last_before test log) one ∙ c.loop-left.invariant.same

pub loop-left-preserved : goal.loop-left-preserved
loop-left-preserved g c =
    let log = c.args.log.now in
    let n = c.loop-left.left - 1 in
    let test = g.Q.RecordQuestion.holds c.args.question.now c.args.session.now in
    let r = c.index-log-left.result in
    let is = read_at log log n r refl (omega (arith, c.loop-left.invariant.within, c.loop-left-test.true, c.requires.within)) c.index-log-left.is in
    let one : n + 1 ≡ c.loop-left.left = omega (arith, c.loop-left-test.true) in
    record {
      within = omega (arith, c.loop-left.invariant.within);
      same = sym (last_same test log n r is (sym c.holds.ensures ∙ c.if-holds.false)) ∙ ap (last_before test log) one ∙ c.loop-left.invariant.same;
    }
