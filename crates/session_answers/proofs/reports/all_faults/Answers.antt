use Rattle.std.proofs.lemmas.Result.{IfOk-weaker}
use Rattle.session_answers.proofs.reports.all_faults.Goals as goal

pub returns : goal.returns
returns c = IfOk-weaker c.print_all_faults.result _ _ (λ text e. record { pages = c.args.pages.now; are_listed = c.requires; is_text = e }) c.print_all_faults.ensures
