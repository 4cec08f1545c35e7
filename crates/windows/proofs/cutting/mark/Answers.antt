use Rattle.windows.proofs.Windowed.{found_by, outside_by}
use Rattle.windows.proofs.cutting.mark.Goals as goal

pub returns-then-is_of-clause-found : goal.returns-then-is_of-clause-found
returns-then-is_of-clause-found g c =
    let met = c.in-Ok.ensures in
    rw c.into_found.ensures (found_by (g.R.Visited.is_recording c.args.recording.now) g.W.Way.guide c.visit.new.visitor c.args.window c.args.known met.0 c.requires met.1 met.2.0 met.2.1 c.if-is_of.ensures)

pub returns-else-is_of-clause-fault : goal.returns-else-is_of-clause-fault
returns-else-is_of-clause-fault g c =
    let met = c.in-Ok.ensures in
    outside_by (g.R.Visited.is_recording c.args.recording.now) c.visit.new.visitor c.args.window met.0 met.1 met.2.1 c.if-is_of.ensures
