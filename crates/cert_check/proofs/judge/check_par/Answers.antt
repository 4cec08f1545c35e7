use Rattle.std.specs.Prelude.{Result, Ok, Err, IfOk}
use Rattle.std.specs.declared.alloc.AllocError.{AllocError}
use Rattle.migration_types.specs.Certs.{Certified}
use Rattle.migration_types.specs.Sessions.{Recorded, IsSession}
use Rattle.cert_check.specs.declared.verdict.Verdict.{Verdict}
use Rattle.cert_check.specs.Verdicts.{IsVerdict, IsTheOneVerdict}
use Rattle.cert_check.proofs.OneVerdict.{one_verdict}
use Rattle.cert_check.proofs.judge.check_par.Goals as goal

the_one : (s : Recorded) (c : Certified) (r : Result Verdict AllocError) → IsSession s → IfOk r (IsVerdict s c) → IfOk r (IsTheOneVerdict s c)
the_one s c (Ok v) fits is = λ other also. one_verdict s c fits other v also is
the_one s c (Err e) fits is = tt

pub returns-clause-parallel_equals_plain : goal.returns-clause-parallel_equals_plain
returns-clause-parallel_equals_plain g c = the_one c.args.session.now c.args.cert.now c.check_by.result c.keeps_limits.ensures c.check_by.ensures.verdict
