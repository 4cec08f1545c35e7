use Rattle.audit_report.proofs.auditing.FaultAndEntriesQuestion.blank.Goals as goal

pub returns : goal.returns
returns c = λ s first. (c.in_ok-fault.ensures s first, c.in_ok-faulty.ensures s first, c.in_ok-entries.ensures s first)
