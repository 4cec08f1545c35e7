use Rattle.migration_types.specs.declared.records.LogName.{LogName}
use Rattle.session_commands.specs.Logs.{log_in, HasAll}
use Rattle.session_commands.proofs.Unsaid.{each_log}
use Rattle.session_commands.proofs.telling.tell_logs.Goals as goal

pub returns : goal.returns
returns g c = λ none.
    let pager = c.in_ok-pager.ensures none in
    let lane = c.in_ok-lane.ensures pager.0 in
    let link = c.in_ok-link.ensures lane.0 in
    let source = c.in_ok-source.ensures link.0 in
    let guest = c.in_ok-guest.ensures source.0 in
    (guest.0, each_log (λ (log : LogName). HasAll (log_in c.args.files.now.logs.now log)) guest.1.0 source.1.0 link.1.0 lane.1.0 pager.1.0)
