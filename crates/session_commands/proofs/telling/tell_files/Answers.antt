use Rattle.std.proofs.lemmas.Result.{on_ok_weaker}
use Rattle.session_commands.proofs.Unsaid.{each_party}
use Rattle.session_commands.proofs.telling.tell_files.Goals as goal

pub returns : goal.returns
returns g c = on_ok_weaker c.tell_logs.result (λ says none.
    let others = says none in
    let lane = c.in_ok-tell_lane.ensures others.0 in
    let machine = c.in_ok-tell_log.ensures lane.0 in
    (machine.0, (each_party c.args.files.now.logs.now machine.1.0 others.1, c.hole_in.ensures machine.1.1, lane.1))) c.tell_logs.ensures
