use Rattle.std.proofs.Common.{◌≡◌, false, sym, ◌∙◌}
use Rattle.std.specs.List.{list_any}
use Rattle.recordings.specs.Wide.{guest_of}
use Rattle.audit_model.specs.Shape.{is_release, is_resume}
use Rattle.session_commands.proofs.Late.{first_now, none_yet}
use Rattle.session_commands.proofs.facts.first_late.Goals as goal

pub returns-then-not-has_resume : goal.returns-then-not-has_resume
returns-then-not-has_resume c = λ guest at resumed none. none_yet guest (guest_of c.args.rec.now) none (λ release some.
    let not_resumed : list_any is_resume guest ≡ false = sym resumed ∙ c.if-not-has_resume.true in
    absurd cc)

pub returns-then-is_release : goal.returns-then-is_release
returns-then-is_release c = λ guest at resumed none. first_now guest (guest_of c.args.rec.now) c.args.number at none (sym c.is_release.ensures ∙ c.if-is_release.true) (sym resumed ∙ c.if-not-has_resume.false)

pub returns : goal.returns
returns c = λ guest at resumed none. none_yet guest (guest_of c.args.rec.now) none (λ release some.
    let not_released : is_release (guest_of c.args.rec.now) ≡ false = sym c.is_release.ensures ∙ c.if-is_release.false in
    absurd cc)
