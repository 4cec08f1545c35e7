use Rattle.std.proofs.Common.{◌≡◌, ℕ, Option, length, refl, subst, arith}
use Rattle.std.specs.Prelude.{◌==◌}
use Rattle.audit_model.specs.Shape.{earlier, passes}
use Rattle.page_facts.proofs.Reading.{read_at}
use Rattle.session_story.specs.inner.Delivered.{AreMarked}
use Rattle.session_story.proofs.Delivered.{marked_all, marked_on}
use Rattle.session_story.proofs.delivering.mark_delivered.Goals as goal

pub loop-n-preserved : goal.loop-n-preserved
loop-n-preserved g c =
    let log = c.args.log.now in
    let n = c.loop-n.n in
    let r = c.index-log-n.result in
    let is = read_at log log n r refl c.loop-n-test.true c.index-log-n.is in
    let named = subst (λ (o : Option ℕ). AreMarked (λ m. passes (λ k. k == m) o) c.loop-n.marks.items c.mark_named.new.marks.items) c.delivered-number.ensures c.mark_named.ensures in
    marked_on (λ m x. passes (λ k. k == m) (g.D.Deliveries.delivered c.args.deliveries.now x)) log n r c.args.marks.now.items c.loop-n.marks.items c.mark_named.new.marks.items is c.loop-n.invariant named

pub returns : goal.returns
returns g c =
    let log = c.args.log.now in
    let start = c.args.marks.now.items in
    let new = c.loop-n.marks.items in
    let auto = c.loop-n.auto in
    let end : c.loop-n.n ≡ length log = omega (arith, c.loop-n-test.false, auto.n-end) in
    let all = subst (λ (k : ℕ). AreMarked (λ m. earlier (λ x. passes (λ j. j == m) (g.D.Deliveries.delivered c.args.deliveries.now x)) log k) start new) end c.loop-n.invariant in
    marked_all (λ m x. passes (λ j. j == m) (g.D.Deliveries.delivered c.args.deliveries.now x)) log start new all
