use Rattle.page_store.proofs.Places.{write_frames}
use Rattle.page_store.proofs.Store.write.Goals as goal

pub returns : goal.returns
returns c =
    let i = c.self.inside in
    let written = rw (c.index.ensures.value, c.cells.ensures) at c.set.ensures in
    write_frames c.args.self.now i.geometry.size i.geometry.pages i.geometry.cells i.items c.set.new.self c.args.page c.args.cell c.args.value c.self.view_is c.self.invariant c.requires.page c.requires.cell written
