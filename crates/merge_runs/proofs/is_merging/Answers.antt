use Rattle.audit_model.specs.Mergings.{spelled}
use Rattle.merge_runs.proofs.Walking.{no_whole_walk}
use Rattle.merge_runs.proofs.is_merging.Goals as goal

pub returns-in-Some : goal.returns-in-Some
returns-in-Some c = (
  λ t. absurd cc,
  λ merging.
      let s = c.args.session.now in
      let runs = c.args.runs.now in
      absurd (no_whole_walk s runs c.in-Some.field-0 c.in-Some.ensures ((c.mergings_are_walks.ensures.walks s (spelled runs)).0 merging)),
)
