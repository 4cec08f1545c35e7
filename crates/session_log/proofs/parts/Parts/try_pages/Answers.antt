use Rattle.std.proofs.Common.{◌-◌, sym, ap, subst, ◌∙◌, length, length-append, arith}
use Rattle.text_lines.specs.Counted.{Part}
use Rattle.migration_types.specs.declared.pages.InitPage.{InitPage}
use Rattle.session_grammar.specs.declared.stage.Stage.TheVariants.{Init}
use Rattle.session_grammar.specs.inner.Forms.{extent_of}
use Rattle.session_grammar.specs.inner.InitPages.{next_from}
use Rattle.session_grammar.specs.inner.Held.{Live}
use Rattle.session_log.specs.inner.Steps.{draft_of}
use Rattle.session_log.proofs.Laws.{pages_push}
use Rattle.session_log.proofs.Back.{with_init, pages_let_go}
use Rattle.session_log.proofs.parts.Parts.try_pages.Goals as goal

pub returns-then-next_page-self-clause-live : goal.returns-then-next_page-self-clause-live
returns-then-next_page-self-clause-live g c =
    let d = c.args.self.now in
    let t = c.lines_up_to-count.ensures in
    let f = c.requires.live.0 in
    let room = f.room in
    let few = f.geometry.some_pages in
    let last = ap (next_from 0) c.items.ensures in
    let longer = ap length t.taken.items ∙ length-append d.init.items t.taken.taken in
    (pages_push d.version (extent_of d.sizes) d.init c.lines_up_to-count.new.self (d.sizes.pages - 1) c.lines_up_to-count.result.1 c.args.bytes.now c.lines_up_to-count.result.0.now f (omega arith) t.count t.within t.taken (omega (arith, last, longer)), c.requires.live.1)

pub returns-clause-live : goal.returns-clause-live
returns-clause-live g c =
    let d = c.args.self.now in
    let t = c.lines_up_to-count.ensures in
    let same = pages_let_go d.init c.lines_up_to-count.new.self c.truncate.new.self t.taken.taken c.came-came.result t.count t.taken.items c.came-came.ensures c.truncate.ensures in
    subst (λ (p : Part InitPage). Live Init (with_init (draft_of d) p)) (sym same) c.requires.live

pub returns-clause-none : goal.returns-clause-none
returns-clause-none g c =
    let d = c.args.self.now in
    let t = c.lines_up_to-count.ensures in
    ap (with_init (draft_of d)) (pages_let_go d.init c.lines_up_to-count.new.self c.truncate.new.self t.taken.taken c.came-came.result t.count t.taken.items c.came-came.ensures c.truncate.ensures)
