use Rattle.std.proofs.Common.{ℕ, List, ◌++◌, ap, ◌∙◌}
use Rattle.session_answers.specs.JsonText.{all_faults_object}
use Rattle.session_answers.proofs.reports.all_faults_object.Goals as goal

pub returns : goal.returns
returns c = record {
  pages = c.args.pages.now;
  are_listed = c.requires;
  is_text = c.in_ok-push_all_faults.ensures ∙ ap (λ (t : List ℕ). t ++ all_faults_object c.args.session.now c.args.report.now c.args.pages.now) c.new-object.ensures.items;
}
