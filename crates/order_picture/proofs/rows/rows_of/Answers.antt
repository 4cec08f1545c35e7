use Rattle.std.proofs.Common.{◌∙◌, List, sym, ap, subst}
use Rattle.order_picture.specs.declared.picture.PictureRow.{PictureRow}
use Rattle.order_picture.specs.Marks.{mark_of}
use Rattle.order_picture.specs.Rows.{Covers, shows_fault}
use Rattle.order_picture.proofs.Built.{closed_covers, closed_shows}
use Rattle.order_picture.proofs.Names.{any_faulty}
use Rattle.order_picture.proofs.rows.rows_of.Goals as goal

pub returns-clause-covers : goal.returns-clause-covers
returns-clause-covers c =
    let mark = mark_of c.args.session.now c.args.focus.now in
    let order = c.args.order.now in
    subst (λ (rs : List PictureRow). Covers mark rs order) (sym c.in_ok-close.ensures.rows) (closed_covers mark c.take_all.new.building order c.in_ok-take_all.ensures.built)

pub returns-clause-shown : goal.returns-clause-shown
returns-clause-shown c =
    let built = c.in_ok-take_all.ensures.built in
    ap shows_fault c.in_ok-close.ensures.rows ∙ (closed_shows c.take_all.new.building ∙ (built.shown ∙ any_faulty c.args.session.now c.args.focus.now c.args.order.now))
