use Rattle.std.proofs.Common.{rules, leb, ◌∙◌, arith, ◌<◌, ◌≤◌, length}
use Rattle.std.proofs.lemmas.List.Sorted.{IsPartitionPoint-from_clause, IsPartitionedBy-leb}
use Rattle.recorder_files.proofs.Needs.{steps_parted, at_step, behind_steps}
use Rattle.recorder_files.proofs.steps.Steps.end.Goals as goal

pub returns-then-at-len : goal.returns-then-at-len
returns-then-at-len c = λ other names is n.
    let parted = IsPartitionedBy-leb (λ s. s.needed) c.deref.result.now c.args.there (steps_parted other names c.deref.result.now (c.deref.ensures.value ∙ is.items)) in
    let point = IsPartitionPoint-from_clause (λ y. leb y.needed c.args.there) c.deref.result.now c.partition_point-at.result c.partition_point-at.ensures.partitioned parted (λ a r q k. search rules) in
    let lt : c.partition_point-at.result < length c.args.self.now.steps.items = omega arith in
    at_step other names c.args.there c.partition_point-at.result c.deref.result.now c.args.self.now.steps.items c.index.result.now c.deref.ensures.value is.items lt point c.index.ensures

pub returns-else-at-len : goal.returns-else-at-len
returns-else-at-len c = λ other names is n.
    let parted = IsPartitionedBy-leb (λ s. s.needed) c.deref.result.now c.args.there (steps_parted other names c.deref.result.now (c.deref.ensures.value ∙ is.items)) in
    let point = IsPartitionPoint-from_clause (λ y. leb y.needed c.args.there) c.deref.result.now c.partition_point-at.result c.partition_point-at.ensures.partitioned parted (λ a r q k. search rules) in
    let le : length c.args.self.now.steps.items ≤ c.partition_point-at.result = omega arith in
    n ∙ behind_steps other names c.args.there c.partition_point-at.result c.deref.result.now c.args.self.now.steps.items c.deref.ensures.value is.items le point
