use Rattle.std.proofs.Common.{◌∙◌, ap, arith, length, refl, sym}
use Rattle.session_commands.proofs.Unsaid.{none_in}
use Rattle.session_commands.proofs.lacks.tell_parts.Goals as goal

pub loop-place-init : goal.loop-place-init
loop-place-init c = λ none. (none, refl)

pub loop-place-preserved : goal.loop-place-preserved
loop-place-preserved c = λ none. absurd (c.in_ok-tell_lack.ensures none)

pub returns : goal.returns
returns c = λ none.
    let h = c.loop-place.invariant none in
    (h.0, sym c.in_ok-found.ensures ∙ none_in _ (omega (arith, ap length c.as_slice-lacks.ensures.value, h.1, c.loop-place-test.false)))
