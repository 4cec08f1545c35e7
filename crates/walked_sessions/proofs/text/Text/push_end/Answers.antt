use Rattle.walked_sessions.proofs.Sections.{at_pager, ended_text}
use Rattle.walked_sessions.proofs.text.Text.push_end.Goals as goal

pub returns : goal.returns
returns c = λ before d s. ended_text before c.reach_pager.new.self (record { bytes = c.push_line.new.out; front = c.reach_pager.new.self.front; init = c.reach_pager.new.self.init; version = c.reach_pager.new.self.version; section = c.reach_pager.new.self.section; left = c.reach_pager.new.self.left }) d (at_pager c.reach_pager.new.self.section c.in_ok-reach_pager.ensures.reached) c.if-self-ne0.false c.in-Ok.ensures (c.in_ok-reach_pager.ensures.stands before d s)
