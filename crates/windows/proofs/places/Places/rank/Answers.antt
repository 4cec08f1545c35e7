use Rattle.std.proofs.Common.{rules, ltb}
use Rattle.std.proofs.lemmas.List.Sorted.{IsPartitionPoint-from_clause, IsPartitionedBy-ltb}
use Rattle.windows.proofs.Found.{rank_is, rising}
use Rattle.windows.proofs.places.Places.rank.Goals as goal

pub returns : goal.returns
returns c =
    let parted = IsPartitionedBy-ltb (λ n. n) c.deref.result.now c.args.number (rw c.deref.ensures.value (rising 0 c.self.inside.count c.self.inside.kept.items c.self.invariant)) in
    let point = IsPartitionPoint-from_clause (λ y. ltb y c.args.number) c.deref.result.now c.partition_point.result c.partition_point.ensures.partitioned parted (λ a r q k. search rules) in
    rw (← c.self.view_is) (rank_is c.self.inside.kept.items c.self.inside.count c.args.number c.partition_point.result c.self.invariant (rw (← c.deref.ensures.value) c.partition_point.ensures.bound) (rw c.deref.ensures.value at point))
