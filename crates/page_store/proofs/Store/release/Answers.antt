use Rattle.page_store.proofs.Places.{release_frames}
use Rattle.page_store.proofs.Store.release.Goals as goal

pub returns : goal.returns
returns c =
    let i = c.self.inside in
    let written = rw (c.index.ensures.value, c.cells-cells.ensures) at c.clear.ensures in
    release_frames c.args.self.now i.geometry.size i.geometry.pages i.geometry.cells i.items c.clear.new.self c.args.page c.self.view_is c.self.invariant c.requires written
