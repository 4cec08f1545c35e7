use Rattle.merge_runs.specs.Taken.{cursors_of}
use Rattle.cert_maker.proofs.Found.{IsGoing, left}
use Rattle.cert_maker.proofs.order.found_runs.Given as goal

abbrev pub invariant-loop-log : goal.invariant-loop-log
invariant-loop-log l = IsGoing l.session l.runs.items (cursors_of l.taken)

abbrev pub decreases-loop-log : goal.decreases-loop-log
decreases-loop-log l = left l.session (cursors_of l.taken)
