use Rattle.std.proofs.lemmas.Result.{IfOk-weaker}
use Rattle.walked_sessions.proofs.Refusing.{any_fault, on_err}
use Rattle.walked_sessions.proofs.Meeting.{and_so}
use Rattle.walked_sessions.specs.Faults.{IsWalkFault}
use Rattle.walked_sessions.proofs.walking.walk_guest.Goals as goal

pub returns-clause-walked : goal.returns-clause-walked
returns-clause-walked g c = IfOk-weaker c.take_log.result _ _ (λ whole t. and_so _ _ _ _ _ _ whole t (t.is (record {}) c.args.visitor.now (λ d may met. met))) c.take_log.ensures.taken

pub returns-clause-refused : goal.returns-clause-refused
returns-clause-refused g c =
    on_err c.take_log.result c.take_log.ensures.refused (λ fault refused messages. any_fault _ _ _ _ (g.F.LogFiles.bytes_of c.args.files.now) (record {}) c.args.visitor.now _ (IsWalkFault c.args.machine.now (g.F.LogFiles.bytes_of c.args.files.now) messages) (λ why has. has) tt fault refused)
