use Rattle.walked_sessions.proofs.Lines.{ok_then}
use Rattle.walked_sessions.proofs.Sections.{to_guest}
use Rattle.walked_sessions.proofs.text.Text.reach_guest.Goals as goal

pub returns-in-Init-clause-stands : goal.returns-in-Init-clause-stands
returns-in-Init-clause-stands c = λ before d s. ok_then c.begin.result (λ begins. to_guest before c.args.self.now c.begin.new.self d c.in-Init.is begins s) c.begin.ensures
