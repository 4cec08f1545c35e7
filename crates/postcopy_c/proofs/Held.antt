-- What the kind of an answer says that is held to a complete session, by the kind of the answer before.
use Rattle.std.proofs.Common.{◌≡◌, ◌≢◌, ◌⊎◌, inl, inr, ℕ, List, ap, sym, ◌∙◌, arith}
use Rattle.audit_report.specs.declared.report.Report.TheVariants as report
use Rattle.judged_texts.specs.declared.auditing.TextAudit.{TextAudit}
use Rattle.judged_texts.specs.declared.auditing.TextAudit.TheVariants.{Refused, Reported}
use Rattle.judged_texts.specs.Audited.{IsSafeExactlyIf}
use Rattle.judged_texts.specs.Checked.{OfSpelled}
use Rattle.postcopy_c.specs.declared.answer.PostcopyAnswer.{PostcopyAnswer}
use Rattle.postcopy_c.specs.declared.showing.ShownAs.{ShownAs}
use Rattle.postcopy_c.specs.Numbers.{audited_numbers}
use Rattle.postcopy_c.specs.Showings.{IsShownAnswer, SaysSafe}

-- the kind stays, or that of a clean session became that of one which is not complete
abbrev pub IsKept : ℕ → ℕ → Type 0
IsKept before after = (after ≡ before) ⊎ ((before ≡ 2) × (after ≡ 17))

never_incomplete : (a : TextAudit) (text_len : ℕ) → (audited_numbers a text_len).kind ≢ 17
never_incomplete (Refused line) text_len e = omega (arith, e)
never_incomplete (Reported (report.Clean cert)) text_len e = omega (arith, e)
never_incomplete (Reported (report.Shape fault)) text_len e = omega (arith, e)
never_incomplete (Reported (report.Knot left found)) text_len e = omega (arith, e)
never_incomplete (Reported (report.Faulty line fault order many)) text_len e = omega (arith, e)

-- what is shown has never that kind
pub not_incomplete : (shown_as : ShownAs) (session before after : List ℕ) (answer : PostcopyAnswer) → IsShownAnswer shown_as session before after answer → answer.kind ≢ 17
not_incomplete shown_as session before after answer (inl t) e =
    never_incomplete t.audited _ (sym (ap (λ (n : PostcopyAnswer). n.kind) t.are_numbers) ∙ e)
not_incomplete shown_as session before after answer (inr w) e = omega (arith, ap (λ (n : PostcopyAnswer). n.kind) w.are_numbers, e)

pub by_other : (Has : Type 0) (before after : ℕ) → IsKept before after → (before ≢ 3 → before ≢ 11 → Has) → after ≢ 3 → after ≢ 11 → Has
by_other Has before after (inl e) h text memory = h (λ k. text (e ∙ k)) (λ k. memory (e ∙ k))
by_other Has before after (inr e) h text memory = h (λ k. omega (arith, e.0, k)) (λ k. omega (arith, e.0, k))

was_clean : (before after : ℕ) → IsKept before after → before ≢ 17 → SaysSafe after → before ≡ 2
was_clean before after (inl e) not (inl k) = sym e ∙ k
was_clean before after (inl e) not (inr k) = absurd (not (sym e ∙ k))
was_clean before after (inr e) not says = e.0

says_safe : (before after : ℕ) → IsKept before after → before ≡ 2 → SaysSafe after
says_safe before after (inl e) k = inl (e ∙ k)
says_safe before after (inr e) k = inr e.1

had_memory : (before after : ℕ) → IsKept before after → after ≢ 11 → before ≢ 11
had_memory before after (inl e) some k = some (e ∙ k)
had_memory before after (inr e) some k = omega (arith, e.0, k)

pub by_safe : (Has : Type 0) (before after : ℕ) → IsKept before after → before ≢ 17 → (before ≡ 2 → Has) → SaysSafe after → Has
by_safe Has before after kept not h says = h (was_clean before after kept not says)

pub by_fault : (Has : Type 0) (before after : ℕ) → IsKept before after → (before ≡ 10 → Has) → after ≡ 10 → Has
by_fault Has before after (inl e) h k = h (sym e ∙ k)
by_fault Has before after (inr e) h k = absurd (omega (arith, e.1, k))

pub exactly_by_kinds : (text : List ℕ) (before after : ℕ) → IsKept before after → before ≢ 17
    → (before ≢ 11 → OfSpelled text (IsSafeExactlyIf (before ≡ 2))) → after ≢ 11 → OfSpelled text (IsSafeExactlyIf (SaysSafe after))
exactly_by_kinds text before after kept not h some s spelled shape merging =
    let law = h (had_memory before after kept some) s spelled shape merging in
    (λ safe. says_safe before after kept (law.0 safe), λ says. law.1 (was_clean before after kept not says))
