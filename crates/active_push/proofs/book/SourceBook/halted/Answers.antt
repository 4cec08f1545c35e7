use Rattle.std.proofs.Common.{◌∙◌, ap, false}
use Rattle.balloon_ledger.specs.Released.{released, pages_below}
use Rattle.migration_types.specs.Extents.{Extent}
use Rattle.page_store.specs.Frames.{memory_of}
use Rattle.bubbling.specs.Bubbling.{rest_of}
use Rattle.active_push.specs.SourcePart.{halted_source}
use Rattle.active_push.proofs.Keeping.{halted_keeps, halted_unsent}
use Rattle.active_push.proofs.Calls.{book_is}
use Rattle.active_push.proofs.book.SourceBook.halted.Goals as goal

pub invariant_of-book : goal.invariant_of-book
invariant_of-book c =
    let o = c.in-Ok.ensures in
    let e = c.geometry.ensures in
    let start = o.bubbles in
    book_is _ (halted_source c.args.store.geometry (memory_of c.args.store) (released c.args.ledger) c.args.pivots c.args.halt)
    (λ i. record { geometry = c.args.store.geometry; log = o.log i; memory = memory_of c.args.store; ledger = released c.args.ledger; sent = o.sent i; ring = start.ring i; was_asked = false; is_done = false })
    c.requires.geometry
    (start.geometry ∙ e)
    (o.table ∙ ap (λ (g : Extent). g.pages) e)
    (o.released_are ∙ ap (λ (g : Extent). pages_below g.pages (released c.args.ledger)) e)
    (start.unsent_is ∙ ap (λ (g : Extent). rest_of g.pages (released c.args.ledger)) e ∙ halted_unsent c.args.store.geometry (memory_of c.args.store) (released c.args.ledger) c.args.pivots c.args.halt)
    (halted_keeps c.args.store.geometry (memory_of c.args.store) (released c.args.ledger) c.args.pivots c.args.halt)
