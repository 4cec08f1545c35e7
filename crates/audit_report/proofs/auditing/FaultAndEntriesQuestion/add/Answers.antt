use Rattle.audit_report.proofs.auditing.FaultAndEntriesQuestion.add.Goals as goal

pub returns : goal.returns
returns c = λ s first count more low high. (c.in_ok-add.ensures s first count more low.0 high.0, c.in_ok-add-2.ensures s first count more low.1 high.1, c.in_ok-add-3.ensures s first count more low.2 high.2)
