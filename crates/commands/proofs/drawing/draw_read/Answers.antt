use Rattle.commands.proofs.Drawn.{drawn, refused_session}
use Rattle.commands.proofs.drawing.draw_read.Goals as goal

pub returns-in_ok-text-in-Ok : goal.returns-in_ok-text-in-Ok
returns-in_ok-text-in-Ok g c = λ text read. drawn c.args.topic text c.args.session.now read c.in-Ok.session _ c.in-Ok.is c.in_ok-text-in-Ok.ensures

pub returns-in-Err : goal.returns-in-Err
returns-in-Err g c = λ text read. refused_session c.args.topic text c.args.session.now read c.in-Err.line c.refused_session.result c.in-Err.is c.refused_session.ensures
