use Rattle.residency.proofs.Presences.{is_placed}
use Rattle.residency.proofs.Residency.mark.Goals as goal

pub returns : goal.returns
returns c =
    let i = c.self.inside in
    rw c.index.ensures.value (is_placed c.args.self.now i.geometry i.pages.items i.frontier c.args.page c.args.pager_at c.self.view_is c.self.invariant c.requires.page c.requires.absent)
