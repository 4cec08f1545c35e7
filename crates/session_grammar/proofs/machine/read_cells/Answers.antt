use Rattle.std.proofs.Common.{ℕ, ◌∙◌, sym, subst, arith}
use Rattle.migration_types.specs.Extents.{IsExtent}
use Rattle.session_grammar.specs.Grammar.{cells_key}
use Rattle.session_grammar.proofs.Laws.{keyed, extent}
use Rattle.session_grammar.proofs.Geometries.{no_fault}
use Rattle.session_grammar.proofs.machine.read_cells.Goals as goal

pub returns-in-Err-clause-refused : goal.returns-in-Err-clause-refused
returns-in-Err-clause-refused c = λ n fits e.
    let found = c.in_ok-cells.ensures.found in
    let few = fits.few_cells in
    let most = found.0 in
    let same = keyed cells_key n c.in_ok-cells.cells (omega arith) (omega arith) (sym e ∙ found.1) in
    no_fault c.args.size c.args.pages c.in_ok-cells.cells c.in-Err.field-0 c.in-Err.ensures (subst (λ (m : ℕ). IsExtent (extent c.args.size c.args.pages m)) same fits)
