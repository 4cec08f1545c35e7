-- The numbers of an audit say whether there is a report, and exactly whether it finds the session clean and whether it
-- finds a fault of a page.
use Rattle.std.proofs.Common.{◌≡◌, ◌≢◌, ℕ, List, refl, ap, arith}
use Rattle.audit_report.specs.declared.report.Report.TheVariants as report
use Rattle.judged_texts.specs.declared.auditing.TextAudit.{TextAudit}
use Rattle.judged_texts.specs.declared.auditing.TextAudit.TheVariants.{Refused, Reported}
use Rattle.judged_texts.specs.Audited.{HasReport, FindsClean, FindsFault, IsSafeExactlyIf}
use Rattle.judged_texts.specs.Checked.{OfSpelled}
use Rattle.postcopy_c.specs.declared.answer.PostcopyAnswer.{PostcopyAnswer}
use Rattle.postcopy_c.specs.declared.kinds.TheConstants.{SESSION_TEXT, CLEAN, FAULTY}
use Rattle.postcopy_c.specs.Numbers.{audited_numbers}

-- there is a report where the number is not that of a text that is refused
pub report_by_number : (a : TextAudit) (text_len : ℕ) (answer : PostcopyAnswer) → answer ≡ audited_numbers a text_len → answer.kind ≢ SESSION_TEXT → HasReport a
report_by_number (Refused line) text_len answer e other = absurd (other (ap (λ (n : PostcopyAnswer). n.kind) e))
report_by_number (Reported report) text_len answer e other = tt

has_clean : (a : TextAudit) (text_len : ℕ) → FindsClean a → (audited_numbers a text_len).kind ≡ CLEAN
has_clean (Refused line) text_len h = absurd h
has_clean (Reported (report.Clean cert)) text_len h = refl
has_clean (Reported (report.Shape fault)) text_len h = absurd h
has_clean (Reported (report.Knot left found)) text_len h = absurd h
has_clean (Reported (report.Faulty line fault order many)) text_len h = absurd h

is_clean : (a : TextAudit) (text_len : ℕ) → (audited_numbers a text_len).kind ≡ CLEAN → FindsClean a
is_clean (Refused line) text_len e = absurd (omega (arith, e))
is_clean (Reported (report.Clean cert)) text_len e = tt
is_clean (Reported (report.Shape fault)) text_len e = absurd (omega (arith, e))
is_clean (Reported (report.Knot left found)) text_len e = absurd (omega (arith, e))
is_clean (Reported (report.Faulty line fault order many)) text_len e = absurd (omega (arith, e))

-- a session is safe exactly where the number is that of a clean one
pub exactly_by_number : (text : List ℕ) (a : TextAudit) (text_len : ℕ) (answer : PostcopyAnswer) → answer ≡ audited_numbers a text_len
    → OfSpelled text (IsSafeExactlyIf (FindsClean a)) → OfSpelled text (IsSafeExactlyIf (answer.kind ≡ CLEAN))
exactly_by_number text a text_len answer e h s spelled shape merging =
    let law = h s spelled shape merging in
    (λ safe. rw e (has_clean a text_len (law.0 safe)), λ kind. law.1 (is_clean a text_len (rw e at kind)))

is_faulty : (a : TextAudit) (text_len : ℕ) → (audited_numbers a text_len).kind ≡ FAULTY → FindsFault a
is_faulty (Refused line) text_len e = absurd (omega (arith, e))
is_faulty (Reported (report.Clean cert)) text_len e = absurd (omega (arith, e))
is_faulty (Reported (report.Shape fault)) text_len e = absurd (omega (arith, e))
is_faulty (Reported (report.Knot left found)) text_len e = absurd (omega (arith, e))
is_faulty (Reported (report.Faulty line fault order many)) text_len e = tt

-- a page has a fault where the number is that of one
pub faulty_by_number : (a : TextAudit) (text_len : ℕ) (answer : PostcopyAnswer) → answer ≡ audited_numbers a text_len → answer.kind ≡ FAULTY → FindsFault a
faulty_by_number a text_len answer e kind = is_faulty a text_len (rw e at kind)
