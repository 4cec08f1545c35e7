use Rattle.std.proofs.Common.{◌∙◌}
use Rattle.std.proofs.lemmas.List.Sorted.{searched}
use Rattle.windows.proofs.Found.{has_is, rising}
use Rattle.windows.proofs.places.Places.has.Goals as goal

pub returns : goal.returns
returns c =
    let found = searched c.self.inside.kept.items c.args.number c.binary_search.result (rw (← c.deref.ensures.value) c.binary_search.ensures.position) (λ i j le lt. rising 0 c.self.inside.count c.self.inside.kept.items c.self.invariant i j 0 le lt) in
    rw (← c.self.view_is) (c.is_ok.ensures.value ∙ has_is c.self.inside.kept.items c.self.inside.count c.args.number c.binary_search.result c.self.invariant found)
