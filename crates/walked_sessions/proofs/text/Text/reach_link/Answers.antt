use Rattle.walked_sessions.proofs.Lines.{ok_then}
use Rattle.walked_sessions.proofs.Sections.{to_link}
use Rattle.walked_sessions.proofs.text.Text.reach_link.Goals as goal

pub returns-in-Source-clause-stands : goal.returns-in-Source-clause-stands
returns-in-Source-clause-stands c = λ before d s. ok_then c.begin.result (λ begins. to_link before c.reach_source.new.self c.begin.new.self d c.in-Source.is begins (c.in_ok-reach_source.ensures.stands before d s)) c.begin.ensures
