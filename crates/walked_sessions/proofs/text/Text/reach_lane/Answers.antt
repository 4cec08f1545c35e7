use Rattle.walked_sessions.proofs.Lines.{ok_then}
use Rattle.walked_sessions.proofs.Sections.{to_lane}
use Rattle.walked_sessions.proofs.text.Text.reach_lane.Goals as goal

pub returns-in-Link-Two-clause-stands : goal.returns-in-Link-Two-clause-stands
returns-in-Link-Two-clause-stands c = λ before d s. ok_then c.begin.result (λ begins. to_lane before c.reach_link.new.self c.begin.new.self d c.in-Link-Two.is-0 c.in-Link-Two.is-1 begins (c.in_ok-reach_link.ensures.stands before d s)) c.begin.ensures
