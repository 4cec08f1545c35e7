use Rattle.page_store.proofs.Places.{install_frames}
use Rattle.page_store.proofs.Store.install.Goals as goal

pub returns : goal.returns
returns c =
    let i = c.self.inside in
    let written = rw (c.index.ensures.value, c.cells.ensures) at c.put.ensures in
    install_frames c.args.self.now i.geometry.size i.geometry.pages i.geometry.cells i.items c.put.new.self c.args.content.now c.args.page c.self.view_is c.self.invariant c.requires.page c.requires.content written
