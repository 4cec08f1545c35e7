use Rattle.std.proofs.Common.{subst}
use Rattle.bubbling.specs.Bubbling.{AreEdges, marked}
use Rattle.bubbling.proofs.Reaches.{found_reach}
use Rattle.bubbling.proofs.Bubbles.keeps_limits.Goals as goal

pub returns-clause-edges : goal.returns-clause-edges
returns-clause-edges c =
    let i = c.self.inside in
    subst AreEdges c.self.view_is (λ pivot e is. found_reach i.geometry.pages (marked i.unsent) pivot i.pivots.pivots i.edges.items e c.self.invariant.1 is)
