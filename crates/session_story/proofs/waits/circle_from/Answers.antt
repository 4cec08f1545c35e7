use Rattle.std.proofs.Common.{◌≡◌, ◌<◌, ◌-◌, suc, sym, ap, ◌∙◌, subst, arith, length}
use Rattle.std.proofs.lemmas.List.{length_push}
use Rattle.audit_model.specs.Mergings.{Cursors}
use Rattle.merge_runs.specs.Taken.{cursors_of}
use Rattle.session_story.specs.inner.Waits.{unfound}
use Rattle.session_story.proofs.Circling.{going_start, going_on, none_is_next, circle_at, unfound_less}
use Rattle.session_story.proofs.waits.circle_from.Goals as goal

pub loop-waiting-init : goal.loop-waiting-init
loop-waiting-init c = going_start c.args.session.now (cursors_of c.args.taken.now) c.args.first c.new-waits.result.items (cursors_of c.nothing-found.result) c.new-waits.ensures.items c.nothing-found.ensures c.requires.left

pub unreachable-requires : goal.unreachable-requires
unreachable-requires c = none_is_next c.args.session.now (cursors_of c.args.taken.now) c.args.first c.loop-waiting.log c.loop-waiting.waits.items (cursors_of c.loop-waiting.found) c.requires.stuck c.loop-waiting.invariant c.in_default.ensures

pub loop-waiting-smaller : goal.loop-waiting-smaller
loop-waiting-smaller c =
    let more = ap length c.in_ok-push.ensures.items ∙ length_push c.loop-waiting.waits.items c.in-Some.waiting in
    let less = unfound_less (cursors_of c.loop-waiting.found) c.loop-waiting.log c.len.result (sym c.of.ensures ∙ c.loop-waiting-test.true) (omega (arith, more, c.len.ensures, c.push.new.self.ok.0)) in
    subst (λ (d : Cursors). unfound d < unfound (cursors_of c.loop-waiting.found)) (sym c.with-found.ensures) less

pub loop-waiting-preserved : goal.loop-waiting-preserved
loop-waiting-preserved c = going_on c.args.session.now (cursors_of c.args.taken.now) c.args.first c.loop-waiting.log c.loop-waiting.waits.items c.push.new.self.items (cursors_of c.loop-waiting.found) (cursors_of c.with-found.result) c.in-Some.waiting c.len.result c.requires.shape c.requires.stuck c.loop-waiting.invariant c.in-Some.ensures c.in_ok-push.ensures.items (omega (arith, c.len.ensures, c.push.new.self.ok.0)) c.with-found.ensures

pub returns : goal.returns
returns c =
    let at : cursors_of c.loop-waiting.found c.loop-waiting.log ≡ suc (c.of-back.result - 1) = omega (arith, c.of.ensures, c.of-back.ensures, c.loop-waiting-test.false) in
    circle_at c.args.session.now (cursors_of c.args.taken.now) c.args.first c.loop-waiting.log _ (cursors_of c.loop-waiting.found) c.loop-waiting.invariant at
