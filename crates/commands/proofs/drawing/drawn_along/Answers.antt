use Rattle.commands.proofs.Drawn.{is_drawn_along}
use Rattle.commands.proofs.drawing.drawn_along.Goals as goal

pub returns : goal.returns
returns g c = is_drawn_along c.args.topic c.args.runs.now c.as_slice.result.now c.args.session.now c.in_ok-report.report c.in_ok-text.text.items c.in_ok-report.ensures.report c.in_ok-text.ensures.text c.as_slice.ensures
