use Rattle.std.proofs.Common.{◌≡◌, ap, ◌∙◌, arith}
use Rattle.migration_types.specs.Extents.{Extent}
use Rattle.migration_types.specs.PageSets.{Pages, size_below, others}
use Rattle.audit_model.specs.Flat.{at_halt, in_ledger}
use Rattle.balloon_ledger.specs.Released.{released}
use Rattle.completeness.proofs.Ledgers.{both}
use Rattle.completeness.proofs.counting.count_released_pages.Goals as goal

pub overflow_sub-result : goal.overflow_sub-result
overflow_sub-result c =
    let s = c.args.session.now in
    let ledger = c.in_ok-ledger.ledger in
    let is = c.in_ok-ledger.ensures in
    let pages : c.pages.result ≡ s.geometry.pages = c.pages.ensures ∙ ap (λ (e : Extent). e.pages) c.geometry.ensures in
    let owed : c.owed_count.result ≡ size_below s.geometry.pages (others (in_ledger s (at_halt s))) =
    c.owed_count.ensures
    ∙ ap (λ (e : Extent). size_below e.pages (others (released ledger))) is.geometry
    ∙ ap (λ (set : Pages). size_below s.geometry.pages (others set)) is.set_is in
    omega (arith, pages, owed, both s.geometry.pages (in_ledger s (at_halt s)))

pub returns : goal.returns
returns c =
    let s = c.args.session.now in
    let ledger = c.in_ok-ledger.ledger in
    let is = c.in_ok-ledger.ensures in
    let pages : c.pages.result ≡ s.geometry.pages = c.pages.ensures ∙ ap (λ (e : Extent). e.pages) c.geometry.ensures in
    let owed : c.owed_count.result ≡ size_below s.geometry.pages (others (in_ledger s (at_halt s))) =
    c.owed_count.ensures
    ∙ ap (λ (e : Extent). size_below e.pages (others (released ledger))) is.geometry
    ∙ ap (λ (set : Pages). size_below s.geometry.pages (others set)) is.set_is in
    omega (arith, pages, owed, both s.geometry.pages (in_ledger s (at_halt s)))
