use Rattle.std.proofs.Common.{sym, ap, ◌∙◌, arith, rules, leb, ◌-◌, ◌≡◌, suc, subst, true, false}
use Rattle.std.specs.List.Sorted.{IsPartitionPoint}
use Rattle.std.proofs.lemmas.List.Sorted.{IsPartitionPoint-from_clause, IsPartitionedBy-leb}
use Rattle.audit_model.specs.Windows.{newest}
use Rattle.windows.specs.inner.Marks.{is_mark}
use Rattle.windows.proofs.Found.{newest_at_none, newest_at_place, rising}
use Rattle.windows.proofs.places.Places.newest.Goals as goal

pub returns-then-before-gt0 : goal.returns-then-before-gt0
returns-then-before-gt0 c =
    let parted = IsPartitionedBy-leb (λ n. n) c.deref.result.now c.args.number (rw c.deref.ensures.value (rising 0 c.self.inside.count c.self.inside.kept.items c.self.invariant)) in
    let point = IsPartitionPoint-from_clause (λ y. leb y c.args.number) c.deref.result.now c.partition_point-before.result c.partition_point-before.ensures.partitioned parted (λ a r q k. search rules) in
    let here = rw c.deref.ensures.value at point in
    let e : c.partition_point-before.result ≡ suc (c.partition_point-before.result - 1) = omega arith in
    let there = subst (λ i. IsPartitionPoint (λ y. leb y c.args.number ≡ true) (λ y. leb y c.args.number ≡ false) c.self.inside.kept.items i) e here in
    sym (newest_at_place c.self.inside.kept.items c.self.inside.count c.args.number (c.partition_point-before.result - 1) c.index.result.now c.self.invariant (omega arith) there c.index.ensures) ∙ ap (λ m. newest is_mark m (suc c.args.number)) c.self.view_is

pub returns-else-before-gt0 : goal.returns-else-before-gt0
returns-else-before-gt0 c =
    let parted = IsPartitionedBy-leb (λ n. n) c.deref.result.now c.args.number (rw c.deref.ensures.value (rising 0 c.self.inside.count c.self.inside.kept.items c.self.invariant)) in
    let point = IsPartitionPoint-from_clause (λ y. leb y c.args.number) c.deref.result.now c.partition_point-before.result c.partition_point-before.ensures.partitioned parted (λ a r q k. search rules) in
    let here = rw c.deref.ensures.value at point in
    let e : c.partition_point-before.result ≡ 0 = omega arith in
    let there = subst (λ i. IsPartitionPoint (λ y. leb y c.args.number ≡ true) (λ y. leb y c.args.number ≡ false) c.self.inside.kept.items i) e here in
    sym (newest_at_none c.self.inside.kept.items c.self.inside.count c.args.number c.self.invariant there) ∙ ap (λ m. newest is_mark m (suc c.args.number)) c.self.view_is
