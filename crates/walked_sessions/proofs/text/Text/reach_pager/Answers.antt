use Rattle.walked_sessions.proofs.Lines.{ok_then}
use Rattle.walked_sessions.proofs.Sections.{to_pager}
use Rattle.walked_sessions.proofs.text.Text.reach_pager.Goals as goal

pub returns-in_default-clause-stands : goal.returns-in_default-clause-stands
returns-in_default-clause-stands c = λ before d s. ok_then c.begin.result (λ begins. to_pager before c.reach_lane.new.self c.begin.new.self d c.in_default.not-Pager c.in_ok-reach_lane.ensures.reached c.in_ok-reach_lane.ensures.version begins (c.in_ok-reach_lane.ensures.stands before d s)) c.begin.ensures
