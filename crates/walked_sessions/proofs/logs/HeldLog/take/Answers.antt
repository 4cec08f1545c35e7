use Rattle.std.proofs.Common.{◌<◌, length, rules}
use Rattle.migration_types.specs.Limits.{longest_log}
use Rattle.walked_sessions.proofs.Logging.{log_push}
use Rattle.walked_sessions.proofs.logs.HeldLog.take.Goals as goal

pub returns : goal.returns
returns g c = λ records h.
    let room : length c.args.self.now.items.items < longest_log = search rules in
    log_push g.W.WideRecord.Fits c.args.machine c.args.self.now (record { items = c.push.new.self; needs = c.and-self.result }) records c.in-Some.rec (g.W.WideRecord.record_of c.args.rec) c.in-Some.needs h room c.in-Some.ensures.0 c.in_ok-push.ensures.items c.in-Some.ensures.1 c.and-self.ensures
