use Rattle.commands.proofs.Drawn.{drawn_along, refused_along, refused_runs}
use Rattle.commands.proofs.drawing.draw_along_read.Goals as goal

pub returns-in_ok-text-in-Ok-runs : goal.returns-in_ok-text-in-Ok-runs
returns-in_ok-text-in-Ok-runs g c = λ first second read other. drawn_along c.args.topic first c.args.session.now read second c.args.runs.now other c.in-Ok.session _ _ c.in-Ok.is c.in-Ok-runs.is c.in_ok-text-in-Ok-runs.ensures

pub returns-in-Err-runs : goal.returns-in-Err-runs
returns-in-Err-runs g c = λ first second read other. refused_runs c.args.topic first c.args.session.now read second c.args.runs.now other c.in-Ok.session c.in-Err-runs.line c.refused.result c.in-Ok.is c.in-Err-runs.is c.refused.ensures

pub returns-in-Err : goal.returns-in-Err
returns-in-Err g c = λ first second read other. refused_along c.args.topic first c.args.session.now read second c.in-Err.line c.refused_session.result c.in-Err.is c.refused_session.ensures
