use Rattle.target_side.proofs.Settling.{sound_settled, settled_part}
use Rattle.target_side.proofs.pager.PagerBook.mark_settled.Goals as goal

pub invariant_of-self : goal.invariant_of-self
invariant_of-self c = sound_settled c.unsettled.result.now c.mark_all.new.marks c.self.invariant c.mark_all.ensures.pages c.mark_all.ensures.marked

pub returns-clause-part : goal.returns-clause-part
returns-clause-part c = settled_part _ c.args.self.now c.mark_all.new.marks c.unsettled.result.now _ c.self.view_is c.mark_all.ensures.marked c.unsettled.ensures.pages
