use Rattle.audit_model.proofs.WindowStarts.{right_by_kept}
use Rattle.audit_model.proofs.laws.windows_leave_misshapen_records_out.Goals as goal

pub returns : goal.returns
returns c = λ s number count ours. right_by_kept number ours s count
