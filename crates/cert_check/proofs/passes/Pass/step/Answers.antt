use Rattle.std.proofs.Common.{◌<◌, subst}
use Rattle.migration_types.specs.Sessions.{log_length}
use Rattle.cert_check.specs.inner.Passes.{IsAt}
use Rattle.cert_check.proofs.Reading.{read_at}
use Rattle.cert_check.proofs.FirstOfLog.{marks_turn}
use Rattle.cert_check.proofs.passes.Pass.step.Goals as goal

pub returns-in-Source : goal.returns-in-Source
returns-in-Source c =
    let s = c.args.session.now in
    let n = c.args.n in
    let rec = c.index-source-n.result in
    let within = subst (λ l. n < log_length s l) c.in-Source.is c.requires.within in
    let is = read_at c.source.result.now s.source n rec c.source.ensures within c.index-source-n.is in
    let at = subst (λ l. IsAt s l n c.args.self.now) c.in-Source.is c.requires.at in
    rw c.in-Source.is (marks_turn s n rec c.args.self.now.sent c.mark.new.marks is at c.mark.ensures)
