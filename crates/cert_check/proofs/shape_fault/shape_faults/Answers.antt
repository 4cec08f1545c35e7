use Rattle.std.proofs.Common.{ℕ, ◌+◌, List, length, get_or, ap, subst, sym, arith}
use Rattle.migration_types.specs.declared.records.LogName.{LogName}
use Rattle.migration_types.specs.declared.records.LogName.TheVariants.{Guest}
use Rattle.cert_check.specs.inner.FaultsUpTo.{AreFaultsAmong, IsInLogs}
use Rattle.cert_check.proofs.FirstOfAll.{IsBefore, at_place, before_all, behind_log}
use Rattle.cert_check.proofs.FaultsUpTo.{all_found, log_begun, log_ended, none_found}
use Rattle.cert_check.proofs.shape_fault.shape_faults.Goals as goal

pub loop-log-init : goal.loop-log-init
loop-log-init c = record {
  list = c.logs-log-items.ensures;
  found = subst (AreFaultsAmong (IsInLogs 0) c.args.session.now) (sym c.new-found.ensures.items) (none_found c.args.session.now);
  before = before_all c.args.session.now c.in_ok-pass.pass c.in_ok-pass.ensures;
}

pub push_found-requires-clause-before : goal.push_found-requires-clause-before
push_found-requires-clause-before c =
    let i = c.loop-log.invariant in
    let k = c.loop-log.log-index in
    log_begun c.args.session.now (get_or c.logs-log-items.result k Guest) k c.loop-log.found.items (at_place k _ i.list c.loop-log-test.true) i.found

pub push_found-requires-clause-at : goal.push_found-requires-clause-at
push_found-requires-clause-at c =
    let i = c.loop-log.invariant in
    let at = at_place c.loop-log.log-index _ i.list c.loop-log-test.true in
    i.before _ (omega (arith, at))

pub loop-log-preserved : goal.loop-log-preserved
loop-log-preserved c =
    let s = c.args.session.now in
    let i = c.loop-log.invariant in
    let k = c.loop-log.log-index in
    let log = get_or c.logs-log-items.result k Guest in
    let at = at_place k _ i.list c.loop-log-test.true in
    let done = c.in_ok-push_found.ensures in
    record {
      list = i.list;
      found = log_ended s log k c.push_found.new.found.items at done.0;
      before = subst (λ (n : ℕ). IsBefore s (n + 1) c.push_found.new.pass) at (behind_log s log _ c.push_found.new.pass done.1);
    }

pub returns : goal.returns
returns c =
    let i = c.loop-log.invariant in
    let all = ap (λ (xs : List LogName). length xs) i.list in
    all_found c.args.session.now c.loop-log.found.items (subst (λ n. AreFaultsAmong (IsInLogs n) c.args.session.now c.loop-log.found.items) (omega (arith, all, c.loop-log-test.false, c.loop-log.auto.log-index-end)) i.found)
