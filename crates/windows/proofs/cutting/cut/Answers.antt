use Rattle.std.proofs.Common.{◌≡◌, Ok, Err}
use Rattle.std.proofs.lemmas.Result.{err_from_is_err_and}
use Rattle.windows.specs.inner.Settled.{IsFoundIn, found_later}
use Rattle.windows.proofs.Later.{later_err, later_ok, never_written, ok_later}
use Rattle.windows.specs.Cuts.{IsCutOf}
use Rattle.windows.proofs.cutting.cut.Goals as goal

pub returns-in_err-second-clause-fault : goal.returns-in_err-second-clause-fault
returns-in_err-second-clause-fault g c =
    let Is = g.R.Visited.is_recording c.args.recording.now in
    let p = err_from_is_err_and c.from_residual-in_err-second.result c.from_residual-in_err-second.ensures.1 in
    let e : Err c.in_err-second.field-0.0 ≡ found_later c.mark-2.result = c.in_err-second.ensures in
    rw (p.1, p.2) (later_err Is c.args.window c.new.result c.in_ok-first.first c.mark-2.result c.in_err-second.field-0.0 c.in_ok-first.ensures.found e c.mark-2.ensures.fault)

pub returns-in_err-third-clause-fault : goal.returns-in_err-third-clause-fault
returns-in_err-third-clause-fault g c =
    let Is = g.R.Visited.is_recording c.args.recording.now in
    let p = err_from_is_err_and c.from_residual-in_err-third.result c.from_residual-in_err-third.ensures.1 in
    let e : Err c.in_err-third.field-0.0 ≡ found_later c.mark-3.result = c.in_err-third.ensures in
    rw (p.1, p.2) (later_err Is c.args.window c.new.result c.in_ok-first.first c.mark-3.result c.in_err-third.field-0.0 c.in_ok-first.ensures.found e c.mark-3.ensures.fault)

pub returns-clause-cut : goal.returns-clause-cut
returns-clause-cut g c = rw c.again-3.ensures (ok_later c.write.result (IsCutOf (g.R.Visited.is_recording c.args.recording.now) c.args.window) c.write.ensures.cut)

pub returns-clause-fault : goal.returns-clause-fault
returns-clause-fault g c =
    let Is = g.R.Visited.is_recording c.args.recording.now in
    let w = c.args.window in
    let second : Ok c.in_ok-second.second ≡ found_later c.mark-2.result = c.in_ok-second.ensures in
    let third : Ok c.in_ok-third.third ≡ found_later c.mark-3.result = c.in_ok-third.ensures in
    let found2 = later_ok c.mark-2.result c.in_ok-second.second (IsFoundIn Is w c.in_ok-first.first) second c.mark-2.ensures.found in
    let found3 = later_ok c.mark-3.result c.in_ok-third.third (IsFoundIn Is w c.in_ok-second.second) third c.mark-3.ensures.found in
    rw c.again-3.ensures (never_written Is w c.new.result c.in_ok-first.first c.in_ok-second.second c.in_ok-third.third c.write.result c.in_ok-first.ensures.found found2 found3 c.write.ensures.fault)
