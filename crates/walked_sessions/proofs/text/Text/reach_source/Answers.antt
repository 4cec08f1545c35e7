use Rattle.walked_sessions.proofs.Lines.{ok_then}
use Rattle.walked_sessions.proofs.Sections.{to_source}
use Rattle.walked_sessions.proofs.text.Text.reach_source.Goals as goal

pub returns-in-Guest-clause-stands : goal.returns-in-Guest-clause-stands
returns-in-Guest-clause-stands c = λ before d s. ok_then c.begin.result (λ begins. to_source before c.reach_guest.new.self c.begin.new.self d c.in-Guest.is begins (c.in_ok-reach_guest.ensures.stands before d s)) c.begin.ensures
