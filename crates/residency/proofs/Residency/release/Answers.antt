use Rattle.residency.proofs.Presences.{is_released}
use Rattle.residency.proofs.Residency.release.Goals as goal

pub returns : goal.returns
returns c =
    let i = c.self.inside in
    rw c.index.ensures.value (is_released c.args.self.now i.geometry i.pages.items i.frontier c.args.page c.self.view_is c.self.invariant c.requires.page c.requires.absent)
