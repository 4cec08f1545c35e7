use Rattle.std.proofs.Common.{◌+◌, refl, sym, ap, ◌∙◌, arith}
use Rattle.page_facts.proofs.Reading.{read_at}
use Rattle.session_story.proofs.Scanning.{one_more, no_more, few_pass}
use Rattle.session_story.proofs.scans.count_of.Goals as goal
use Rattle.session_story.proofs.scans.count_of.Goals.{then-holds, else-holds}

pub overflow_add-count : goal.overflow_add-count
overflow_add-count g c =
    let test = g.Q.RecordQuestion.holds c.args.question.now c.args.session.now in
    let few = few_pass test c.args.log.now c.loop-n.n in
    omega (arith, few, c.loop-n.invariant, c.loop-n-test.true, c.requires)

pub loop-n-preserved : goal.loop-n-preserved
loop-n-preserved g c =
    let log = c.args.log.now in
    let n = c.loop-n.n in
    let test = g.Q.RecordQuestion.holds c.args.question.now c.args.session.now in
    let r = c.index-log-n.result in
    let is = read_at log log n r refl c.loop-n-test.true c.index-log-n.is in
    elim c.if-holds.branch [
      | then-holds w ↦
          let more = one_more test log n r is (sym c.holds.ensures ∙ w.if-holds.true) in
          w.count-is ∙ ap (λ k. k + 1) c.loop-n.invariant ∙ sym (more ∙ omega arith)
      | else-holds w ↦ w.count-is ∙ c.loop-n.invariant ∙ sym (no_more test log n r is (sym c.holds.ensures ∙ w.if-holds.false))
    ]
