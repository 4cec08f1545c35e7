-- The answers of the calls about the bytes that they are given.
use Rattle.std.specs.Prelude.{◌≡◌, ℕ, ◌<◌, ◌≤◌, ◌⊎◌, List, ◌++◌, length, drop, Result, IfOk}
use Rattle.std.specs.declared.alloc.AllocError.{AllocError}
use Rattle.cert_check.specs.declared.verdict.Verdict.{Verdict}
use Rattle.judged_texts.specs.Checked.{IsTextVerdict}
use Rattle.judged_texts.specs.declared.auditing.TextAudit.{TextAudit}
use Rattle.judged_texts.specs.declared.audit_part.AuditPart.{AuditPart}
use Rattle.judged_texts.specs.Audited.{IsAudited}
use Rattle.judged_texts.specs.AuditedText.{audited_text}
use Rattle.judged_texts.specs.declared.replaying.Outcome.{Outcome}
use Rattle.judged_texts.specs.Replayed.{IsOutcome}
use Rattle.postcopy_c.specs.declared.answer.PostcopyAnswer.{PostcopyAnswer}
use Rattle.postcopy_c.specs.Numbers.{verdict_numbers, audited_numbers, replay_numbers, no_memory}

-- the numbers for the verdict on the two texts, or for running out of memory
pub record IsVerdictAnswer (session cert : List ℕ) (answer : PostcopyAnswer) : Type 0 where
  pub verdict : Result Verdict AllocError
  pub is_verdict : IfOk verdict (IsTextVerdict session cert)
  pub are_numbers : answer ≡ verdict_numbers verdict

-- the numbers for the outcome of the session along the runs, or for running out of memory
pub record IsReplayAnswer (session runs : List ℕ) (answer : PostcopyAnswer) : Type 0 where
  pub outcome : Result Outcome AllocError
  pub is_outcome : IfOk outcome (IsOutcome session runs)
  pub are_numbers : answer ≡ replay_numbers outcome

-- if the items fit into the room, they are at its front, and the rest stays as it was; otherwise all of it stays
pub record IsPut {X : Type 0} (items before after : List X) : Type 0 where
  pub fits : length items ≤ length before → after ≡ items ++ drop (length items) before
  pub short : length before < length items → after ≡ before

-- the numbers of an audit, with the length of its whole text, and that text in the room
pub record IsTold (wanted : AuditPart) (audited : TextAudit) (before after : List ℕ) (answer : PostcopyAnswer) : Type 0 where
  pub are_numbers : answer ≡ audited_numbers audited (length (audited_text wanted audited))
  pub is_put : IsPut (audited_text wanted audited) before after

-- the audit of the text, in numbers and in the room
pub record TellsAudit (wanted : AuditPart) (session before after : List ℕ) (answer : PostcopyAnswer) : Type 0 where
  pub audited : TextAudit
  pub is_audited : IsAudited session audited
  pub told : IsTold wanted audited before after answer

-- memory ran out, and the room stays as it was
pub record WantsMemory (before after : List ℕ) (answer : PostcopyAnswer) : Type 0 where
  pub are_numbers : answer ≡ no_memory
  pub stays : after ≡ before

-- the audit of the text, or memory ran out
abbrev pub IsAuditAnswer : AuditPart → List ℕ → List ℕ → List ℕ → PostcopyAnswer → Type 0
IsAuditAnswer wanted session before after answer = TellsAudit wanted session before after answer ⊎ WantsMemory before after answer
