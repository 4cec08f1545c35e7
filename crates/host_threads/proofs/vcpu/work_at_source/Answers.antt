use Rattle.std.proofs.Common.{◌≡◌, ◌+◌, ◌++◌, List, [], ◌∷◌, take, sym, ap, ◌∙◌, subst}
use Rattle.std.proofs.lemmas.List.{take_more}
use Rattle.migration_events.specs.declared.ops.Op.{Op}
use Rattle.target_side.specs.Guests.{part_of}
use Rattle.guest_script.specs.declared.transcript.Answered.{Answered}
use Rattle.host_threads.specs.Operations.{HasDone}
use Rattle.host_threads.proofs.Working.{done_more}
use Rattle.host_threads.proofs.vcpu.work_at_source.Goals as goal

pub loop-at-preserved : goal.loop-at-preserved
loop-at-preserved c =
    let at = c.loop-at.at in
    let ops = c.args.ops.now in
    let op = c.index-ops-at.result in
    let old = part_of c.args.book.now in
    let new = part_of c.step_guest.new.book in
    let x = c.in-Answered.answer in
    let more : take (at + 1) ops ≡ take at ops ++ op ∷ [] = take_more ops at op c.loop-at-test.true ∙ ap (λ (o : Op). take at ops ++ o ∷ []) (sym c.index-ops-at.is) in
    let told : c.push_reserved.new.self.items ≡ c.loop-at.answers.items ++ (record { op = op; answer = x }) ∷ [] =
    c.push_reserved.ensures.items ∙ ap (λ (xs : List Answered). xs ++ (record { op = op; answer = x }) ∷ []) c.reserve.ensures.items in
    subst (λ (os : List Op). HasDone c.args.vcpu os old new c.args.answers.now.items c.push_reserved.new.self.items) (sym more)
    (subst (λ (xs : List Answered). HasDone c.args.vcpu (take at ops ++ op ∷ []) old new c.args.answers.now.items xs) (sym told)
    (done_more c.args.vcpu (take at ops) op old (part_of c.loop-at.book) new c.args.answers.now.items c.loop-at.answers.items x c.loop-at.invariant c.in-Answered.ensures.step.0 c.in-Answered.ensures.step.1))
