use Rattle.std.proofs.Common.{rules}
use Rattle.windows.proofs.Marked.{other_count, other_places}
use Rattle.windows.proofs.places.Places.is_same.Goals as goal

pub returns-then-self-other-clause-other : goal.returns-then-self-other-clause-other
returns-then-self-other-clause-other c = λ apart. other_places c.self.inside.kept.items c.other.inside.kept.items c.self.inside.count c.other.inside.count c.args.self.now c.args.other.now c.self.view_is c.other.view_is c.self.invariant c.other.invariant c.if-self-other.true (λ e. search rules)

pub returns-else-self-other-clause-other : goal.returns-else-self-other-clause-other
returns-else-self-other-clause-other c = λ apart. other_count c.self.inside.kept.items c.other.inside.kept.items c.self.inside.count c.other.inside.count c.args.self.now c.args.other.now c.self.view_is c.other.view_is apart
