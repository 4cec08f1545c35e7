use Rattle.std.proofs.Common.{arith, refl}
use Rattle.session_commands.proofs.Unsaid.{none_in}
use Rattle.session_commands.proofs.words.tell_each.Goals as goal

pub loop-place-init : goal.loop-place-init
loop-place-init c = λ none. (none, refl)

pub loop-place-preserved : goal.loop-place-preserved
loop-place-preserved c = λ none. absurd (c.in_ok-tell_sentence.ensures none)

pub returns : goal.returns
returns c = λ none.
    let h = c.loop-place.invariant none in
    (h.0, none_in _ (omega (arith, h.1, c.loop-place-test.false)))
