use Rattle.std.proofs.Common.{refl}
use Rattle.page_store.proofs.Places.{page_frames}
use Rattle.page_store.proofs.Store.page.Goals as goal

pub returns : goal.returns
returns c =
    let i = c.self.inside in
    let read = rw (c.index.ensures.value, c.cells-cells.ensures) at c.slice.ensures in
    page_frames c.args.self.now i.geometry.size i.geometry.pages i.geometry.cells i.items c.slice.result.now i.items c.args.page c.self.view_is c.self.invariant c.requires refl read
