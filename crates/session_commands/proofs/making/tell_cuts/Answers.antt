use Rattle.std.proofs.Common.{◌≤◌}
use Rattle.migration_types.specs.declared.records.LogName.{LogName}
use Rattle.migration_types.specs.Sessions.{log_length}
use Rattle.recorder_files.specs.Fronts.{cursors_of}
use Rattle.session_commands.proofs.Unsaid.{each_log}
use Rattle.session_commands.proofs.making.tell_cuts.Goals as goal

pub returns : goal.returns
returns g c = λ s naming none.
    let pager = c.in_ok-tell_cut-5.ensures s naming none in
    let lane = c.in_ok-tell_cut-4.ensures s naming pager.0 in
    let link = c.in_ok-tell_cut-3.ensures s naming lane.0 in
    let source = c.in_ok-tell_cut-2.ensures s naming link.0 in
    let guest = c.in_ok-tell_cut.ensures s naming source.0 in
    (guest.0, each_log (λ (log : LogName). log_length s log ≤ cursors_of c.args.front log) guest.1 source.1 link.1 lane.1 pager.1)
