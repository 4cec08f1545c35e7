use Rattle.session_core.specs.States.{home_of, scripted_of}
use Rattle.migration_model.proofs.Reached.{start_reached}
use Rattle.migration_model.specs.Events.{start}
use Rattle.migration_model.specs.Books.{Before, Books, Recording}
use Rattle.migration_model.specs.Promise.{IsReached}
use Rattle.migration_types.specs.Receipts.{Name}
use Rattle.session_core.proofs.cores.Core.start.Goals as goal
use Rattle.std.proofs.Common.{List, [], ap, subst, sym, ◌∙◌, ◌≡◌}

pub invariant_of-result : goal.invariant_of-result
invariant_of-result c =
    let s = scripted_of c.args.script.now in
    let home : Books = Before (home_of c.in_ok-before.before) in
    let same : start s ≡ (record { books = home; order = c.new.result.items }) =
    ap (λ (b : Books). let core : Recording = record { books = b; order = [] } in core) (sym c.in_ok-before.ensures.books)
    ∙ ap (λ (o : List Name). let core : Recording = record { books = home; order = o } in core) (sym c.new.ensures.items) in
    (tt, subst IsReached same (start_reached s c.start.ensures.fits))
