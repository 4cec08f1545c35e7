use Rattle.std.proofs.Common.{ℕ, ◌+◌, List, length, get_or, sym, ap, subst, arith}
use Rattle.std.proofs.lemmas.Option.{MatchOption-at_some, MatchOption-at_none}
use Rattle.migration_types.specs.declared.records.LogName.{LogName}
use Rattle.migration_types.specs.declared.records.LogName.TheVariants.{Guest}
use Rattle.cert_check.specs.inner.FirstOfLog.{IsRightLog, IsFirstOfLog}
use Rattle.cert_check.specs.inner.Passes.{IsAt}
use Rattle.cert_check.proofs.FirstOfAll.{AreRightLogs, IsBefore, at_place, before_all, behind_log, first_in_log, one_more_log, shape_right}
use Rattle.cert_check.proofs.shape_fault.shape.Goals as goal

pub loop-log-init : goal.loop-log-init
loop-log-init c = record {
  list = c.logs-log-items.ensures;
  right = λ log lt. absurd (omega (arith, lt));
  before = before_all c.args.session.now c.in_ok-pass.pass c.in_ok-pass.ensures;
}

pub first_found-requires-clause-at : goal.first_found-requires-clause-at
first_found-requires-clause-at c =
    let k = c.loop-log.log-index in
    let i = c.loop-log.invariant in
    let at = at_place k _ i.list c.loop-log-test.true in
    i.before _ (omega (arith, at))

pub loop-log-preserved : goal.loop-log-preserved
loop-log-preserved c =
    let s = c.args.session.now in
    let k = c.loop-log.log-index in
    let i = c.loop-log.invariant in
    let log = get_or c.logs-log-items.result k Guest in
    let at = at_place k _ i.list c.loop-log-test.true in
    let pass = c.first_found.new.pass in
    let right = MatchOption-at_none (IsRightLog s log × IsAt s log _ pass) (IsFirstOfLog s log) c.in_default.is c.first_found.ensures in
    record {
      list = i.list;
      right = subst (λ (n : ℕ). AreRightLogs s (n + 1)) at (one_more_log s log (subst (AreRightLogs s) (sym at) i.right) right.0);
      before = subst (λ (n : ℕ). IsBefore s (n + 1) pass) at (behind_log s log _ pass right.1);
    }

pub returns-in-Some : goal.returns-in-Some
returns-in-Some c =
    let s = c.args.session.now in
    let k = c.loop-log.log-index in
    let i = c.loop-log.invariant in
    let f = c.in-Some.fault in
    let log = get_or c.logs-log-items.result k Guest in
    let at = at_place k _ i.list c.loop-log-test.true in
    let first = MatchOption-at_some (IsRightLog s log × IsAt s log _ c.first_found.new.pass) (IsFirstOfLog s log) f c.in-Some.is c.first_found.ensures in
    first_in_log s log f c.keeps_limits.ensures (subst (AreRightLogs s) (sym at) i.right) first

pub returns : goal.returns
returns c =
    let i = c.loop-log.invariant in
    let all = ap (λ (xs : List LogName). length xs) i.list in
    shape_right c.args.session.now (λ log lt. i.right log (omega (arith, lt, all, c.loop-log-test.false)))
