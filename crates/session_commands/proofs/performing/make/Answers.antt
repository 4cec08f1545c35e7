use Rattle.std.proofs.Common.{sym, ◌∙◌}
use Rattle.std.specs.Prelude.{string_bytes}
use Rattle.text_access.proofs.Fronts.{both_gain}
use Rattle.session_commands.proofs.Compressing.{none_in_folders}
use Rattle.session_commands.proofs.performing.make.Goals as goal

pub make_of-status-requires-clause-asked : goal.make_of-status-requires-clause-asked
make_of-status-requires-clause-asked g c = λ refused. none_in_folders string_bytes _ _ c.in_ok-found.found.compressed.items (sym c.as_slice.ensures.value ∙ c.in_ok-goes_on.ensures.asked c.if-not-goes_on.false refused) c.in_ok-found.ensures.compressed

pub returns-clause-gains : goal.returns-clause-gains
returns-clause-gains g c = (c.make_of-status.ensures.gains.0, both_gain _ _ _ c.leave_out.ensures.gains c.make_of-status.ensures.gains.1)
