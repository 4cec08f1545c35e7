use Rattle.std.proofs.Common.{◌≡◌, ◌+◌, ◌-◌, ◌<◌, length, set, arith}
use Rattle.audit_report.proofs.Blocks.{IsAdded, same_logs_by, other_logs_by, same_last, added_last, added_first, added_next}
use Rattle.audit_report.proofs.parts.add_part.Goals.{After-index_mut, In_ok-push, else-len-gt0-via-then-len-gt0+else-eq, else-len-gt0-via-else-len-gt0}
use Rattle.audit_report.proofs.parts.add_part.Goals as goal

grows : (c : After-index_mut) → IsAdded c.args.runs.now.items c.args.log c.args.count (set c.args.runs.now.items (c.len-len.result - 1) (record { log = c.index_mut.result.now.log; count = c.index_mut.result.now.count + c.args.count }))
grows c =
    let runs = c.args.runs.now.items in
    let long : c.len-len.result ≡ length runs = omega (arith, c.len-len.ensures, c.args.runs.now.ok.0) in
    let same = same_logs_by c.index.result.now.log c.args.log c.eq.result c.eq.ensures c.if-eq.true in
    let last = same_last runs c.index_mut.result.now c.index.result.now _ _ c.args.log c.len-len.result long c.if-len-gt0.true c.index_mut.ensures.value c.index.ensures same in
    added_last runs c.index_mut.result.now _ c.args.log c.len-len.result c.args.count c.requires.blocks c.requires.room long c.if-len-gt0.true c.index_mut.ensures.value last

pub returns-then-eq-clause-blocks : goal.returns-then-eq-clause-blocks
returns-then-eq-clause-blocks c = (grows (goal.at.returns-then-eq-clause-blocks c).After-index_mut).blocks

pub returns-then-eq-clause-spelled : goal.returns-then-eq-clause-spelled
returns-then-eq-clause-spelled c = (grows (goal.at.returns-then-eq-clause-spelled c).After-index_mut).spelled

adds : (c : In_ok-push) → IsAdded c.args.runs.now.items c.args.log c.args.count c.push.new.self.items
adds c =
    let runs = c.args.runs.now.items in
    let more = c.push.new.self.items in
    let long : c.len-len.result ≡ length runs = omega (arith, c.len-len.ensures, c.args.runs.now.ok.0) in
    let some : 0 < c.args.count = omega (arith, c.if-count-eq0.false) in
    elim c.else-len-gt0.branch [
      | else-len-gt0-via-then-len-gt0+else-eq w ↦ added_next runs more w.index.result.now _ c.args.log c.len-len.result c.args.count c.requires.blocks c.requires.room long w.if-len-gt0.true w.index.ensures (other_logs_by w.index.result.now.log c.args.log w.eq.result w.eq.ensures w.if-eq.false) some c.in_ok-push.ensures.items
      | else-len-gt0-via-else-len-gt0 w ↦ added_first runs more c.args.log c.len-len.result c.args.count c.requires.blocks c.requires.room long w.if-len-gt0.false some c.in_ok-push.ensures.items
    ]

pub returns-clause-blocks : goal.returns-clause-blocks
returns-clause-blocks c = (adds c).blocks

pub returns-clause-spelled : goal.returns-clause-spelled
returns-clause-spelled c = (adds c).spelled
