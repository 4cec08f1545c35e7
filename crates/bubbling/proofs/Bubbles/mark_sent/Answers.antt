use Rattle.std.proofs.Common.{ap, ◌∙◌}
use Rattle.migration_types.specs.PageSets.{Pages}
use Rattle.bubbling.specs.Bubbling.{marked}
use Rattle.bubbling.proofs.Reaches.{reaches_fewer, still_false}
use Rattle.bubbling.proofs.Bubbles.mark_sent.Goals as goal

pub invariant_of-self : goal.invariant_of-self
invariant_of-self c =
    let i = c.self.inside in (
      c.remove.ensures.len ∙ c.self.invariant.0,
      reaches_fewer i.geometry.pages (marked i.unsent) (marked c.remove.new.self) i.pivots.pivots i.edges.items (λ q is. ap (λ (s : Pages). s q) c.remove.ensures.pages ∙ still_false (marked i.unsent) c.args.page q is) c.self.invariant.1,
    )
