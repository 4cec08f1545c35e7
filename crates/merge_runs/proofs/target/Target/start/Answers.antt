use Rattle.std.proofs.Common.{◌∙◌}
use Rattle.merge_runs.proofs.target.Target.start.Goals as goal

pub returns : goal.returns
returns c = record {
  sized = record {
    frames = c.in_ok-frames.ensures.geometry;
    resident = c.in_ok-resident.ensures.pages ∙ c.pages.ensures;
    placed = c.in_ok-placed.ensures.pages ∙ c.pages-2.ensures;
    touched = c.in_ok-touched.ensures.pages ∙ c.pages-3.ensures;
  };
  memory = c.in_ok-frames.ensures.memory;
  resident = c.in_ok-resident.ensures.values;
  placed = c.in_ok-placed.ensures.values;
  touched = c.in_ok-touched.ensures.values;
}
