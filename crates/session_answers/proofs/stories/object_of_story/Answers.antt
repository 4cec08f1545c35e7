use Rattle.std.proofs.Common.{ℕ, List, ◌++◌, ap, ◌∙◌}
use Rattle.session_answers.specs.TopicsText.{told_object}
use Rattle.session_answers.proofs.stories.object_of_story.Goals as goal

pub push_told-requires : goal.push_told-requires
push_told-requires g c = (c.args.topic, c.in_ok-told.ensures)

pub returns : goal.returns
returns g c = record {
  told = c.in_ok-told.told;
  is_told = c.in_ok-told.ensures;
  is_text = c.in_ok-push_told.ensures ∙ ap (λ (t : List ℕ). t ++ told_object (g.L.Lines.tell c.args.lines.now) c.args.session.now c.args.report.now c.in_ok-told.told) c.new-object.ensures.items;
}
