-- The table of answers: the numbers for each of them in C.
use Rattle.std.specs.Prelude.{ℕ, Result, Ok, Err}
use Rattle.std.specs.declared.alloc.AllocError.{AllocError}
use Rattle.audit_model.specs.declared.reasons.ShapeReason.{ShapeReason}
use Rattle.audit_model.specs.declared.reasons.ShapeReason.TheVariants as shape
use Rattle.audit_model.specs.declared.reasons.PageReason.{PageReason}
use Rattle.audit_model.specs.declared.reasons.PageReason.TheVariants as page
use Rattle.cert_check.specs.declared.verdict.Verdict.{Verdict}
use Rattle.cert_check.specs.declared.verdict.Verdict.TheVariants as verdict
use Rattle.audit_report.specs.declared.report.Report.TheVariants as report
use Rattle.judged_texts.specs.declared.auditing.TextAudit.{TextAudit}
use Rattle.judged_texts.specs.declared.auditing.TextAudit.TheVariants.{Refused, Reported}
use Rattle.judged_texts.specs.declared.replaying.Outcome.{Outcome}
use Rattle.judged_texts.specs.declared.replaying.Outcome.TheVariants as outcome
use Rattle.postcopy_c.specs.declared.answer.PostcopyAnswer.{PostcopyAnswer}

-- the reasons for a wrong shape, and for a faulty page; 0 is no reason
abbrev pub shape_number : ShapeReason → ℕ
shape_number shape.Phases = 1
shape_number shape.Named = 2
shape_number shape.Start = 3
shape_number shape.SecondSend = 4
shape_number shape.Both = 5

abbrev pub page_number : PageReason → ℕ
page_number page.Read = 11
page_number page.Early = 12
page_number page.Given = 13
page_number page.Stale = 14
page_number page.Twice = 15
page_number page.Altered = 16
page_number page.Unfit = 17
page_number page.Over = 18

-- the kind of an answer, which is never 0; the line that it names, or 0; its reason, or 0; and the length of its text
abbrev pub numbers : ℕ → ℕ → ℕ → ℕ → PostcopyAnswer
numbers kind line reason text_len = record { kind = kind; line = line; reason = reason; text_len = text_len }

-- memory ran out, and nothing is said
abbrev pub no_memory : PostcopyAnswer
no_memory = numbers 11 0 0 0

-- the verdict on a session and a certificate, or memory ran out
abbrev pub verdict_numbers : Result Verdict AllocError → PostcopyAnswer
verdict_numbers (Ok verdict.Yes) = numbers 1 0 0 0
verdict_numbers (Ok (verdict.SessionText line)) = numbers 3 line 0 0
verdict_numbers (Ok (verdict.CertText line)) = numbers 4 line 0 0
verdict_numbers (Ok (verdict.Shape fault)) = numbers 5 fault.line (shape_number fault.reason) 0
verdict_numbers (Ok verdict.Pages) = numbers 6 0 0 0
verdict_numbers (Ok (verdict.Runs line)) = numbers 7 line 0 0
verdict_numbers (Ok (verdict.Page line)) = numbers 8 line 0 0
verdict_numbers (Err e) = no_memory

-- the result of an audit, with the length of its text
abbrev pub audited_numbers : TextAudit → ℕ → PostcopyAnswer
audited_numbers (Refused line) text_len = numbers 3 line 0 text_len
audited_numbers (Reported (report.Clean cert)) text_len = numbers 2 0 0 text_len
audited_numbers (Reported (report.Shape fault)) text_len = numbers 5 fault.line (shape_number fault.reason) text_len
audited_numbers (Reported (report.Knot left found)) text_len = numbers 9 left.line 0 text_len
audited_numbers (Reported (report.Faulty line fault order many)) text_len = numbers 10 line (page_number fault.reason) text_len

-- the outcome of a replay, or memory ran out
abbrev pub replay_numbers : Result Outcome AllocError → PostcopyAnswer
replay_numbers (Ok (outcome.SessionText line)) = numbers 3 line 0 0
replay_numbers (Ok (outcome.RunsText line)) = numbers 13 line 0 0
replay_numbers (Ok (outcome.Shape fault)) = numbers 5 fault.line (shape_number fault.reason) 0
replay_numbers (Ok outcome.NoMerging) = numbers 14 0 0 0
replay_numbers (Ok (outcome.Broken line)) = numbers 15 line 0 0
replay_numbers (Ok outcome.Safe) = numbers 12 0 0 0
replay_numbers (Err e) = no_memory
