use Rattle.std.proofs.Common.{◌≡◌, [], length, ap, arith}
use Rattle.session_grammar.specs.inner.Held.{held_onto}
use Rattle.session_log.specs.inner.Steps.{draft_of}
use Rattle.session_grammar.specs.declared.stage.Stage.{Stage}
use Rattle.session_log.proofs.lines.PartsStagesBack.undo.Goals as goal

pub step_back-requires-clause-some : goal.step_back-requires-clause-some
step_back-requires-clause-some c = λ is.
    let none : held_onto c.args.stage (draft_of c.args.self.now) [] ≡ [] = ap (λ (s : Stage). held_onto s (draft_of c.args.self.now) []) is in
    let long = ap length none in
    absurd (omega (arith, c.requires.some))
