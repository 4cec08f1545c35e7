use Rattle.windows.proofs.Windowed.{unwritten, written}
use Rattle.windows.proofs.cutting.write.Goals as goal

pub returns-in-Ok-clause-cut : goal.returns-in-Ok-clause-cut
returns-in-Ok-clause-cut g c =
    let met = c.in-Ok.ensures in
    written (g.R.Visited.is_recording c.args.recording.now) g.W.Way.guide c.visit.new.visitor c.args.window c.args.known met.0 c.window_text-out.result c.requires met.1 met.2.0 met.2.1 c.window_text-out.ensures.cut

pub returns-in-Ok-clause-fault : goal.returns-in-Ok-clause-fault
returns-in-Ok-clause-fault g c =
    let met = c.in-Ok.ensures in
    unwritten (g.R.Visited.is_recording c.args.recording.now) g.W.Way.guide c.visit.new.visitor c.args.window c.args.known met.0 c.window_text-out.result c.requires met.1 met.2.0 met.2.1 c.window_text-out.ensures.refused
