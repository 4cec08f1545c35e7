use Rattle.std.proofs.Common.{◌<◌, ◌≤◌, ◌⊎◌, ℕ, sym, subst}
use Rattle.std.specs.Prelude.{OnOk, OnErr}
use Rattle.migration_types.specs.Limits.{most_records}
use Rattle.target_side.specs.Kept.{part_of as target_of}
use Rattle.target_side.specs.PagerLists.{part_of}
use Rattle.target_side.proofs.Settling.{deliver_logs}
use Rattle.target_side.proofs.pager.PagerBook.look_to_deliver.Goals as goal

-- the logs are as long as if no page were settled
pub returns-clause-room : goal.returns-clause-room
returns-clause-room c =
    let logs = deliver_logs (part_of c.args.self.now) (target_of c.args.target.now) in
    subst (λ (n : ℕ × ℕ). OnOk c.look_to_bring.result ((n.0 ≤ most_records) × (n.1 ≤ most_records))) (λ i. (sym logs.0 i, sym logs.1 i)) c.look_to_bring.ensures.room

pub returns-clause-full : goal.returns-clause-full
returns-clause-full c =
    let logs = deliver_logs (part_of c.args.self.now) (target_of c.args.target.now) in
    subst (λ (n : ℕ × ℕ). OnErr c.look_to_bring.result ((most_records < n.0) ⊎ (most_records < n.1))) (λ i. (sym logs.0 i, sym logs.1 i)) c.look_to_bring.ensures.full
