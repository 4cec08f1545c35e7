use Rattle.std.proofs.Common.{sym, refl, ◌∙◌}
use Rattle.std.specs.Prelude.{string_bytes}
use Rattle.std.proofs.lemmas.Result.{IfOk-weaker}
use Rattle.text_access.proofs.Fronts.{both_gain}
use Rattle.session_commands.proofs.Answered.{found_in}
use Rattle.session_commands.proofs.Compressing.{none_in_folders}
use Rattle.session_commands.proofs.windowing.cut_found.Goals as goal

pub returns-clause-cut : goal.returns-clause-cut
returns-clause-cut g c =
    let names_in = g.S.TextSource.names_in c.args.texts.now in
    let all = none_in_folders string_bytes _ _ c.args.found.now.compressed.items (sym c.as_slice.ensures.value ∙ c.in_ok-goes_on.ensures.asked c.if-not-goes_on.false refl) c.requires.compressed in
    IfOk-weaker c.cut_logs-cut.result _ _ (λ found. found_in names_in (g.S.TextSource.bytes_of c.args.texts.now) _ c.in_ok-logs.logs c.args.window found (c.in_ok-logs.ensures c.requires.found) all) c.cut_logs-cut.ensures.cut

pub returns-clause-gains : goal.returns-clause-gains
returns-clause-gains g c = both_gain _ _ _ c.leave_out.ensures.gains c.cut_logs-cut.ensures.gains
