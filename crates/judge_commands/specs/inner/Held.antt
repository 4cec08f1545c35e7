-- Answers that depend on whether a session is complete.
use Rattle.std.specs.Prelude.{◌≡◌, ℕ, Option, Some, None, ◌⊎◌, Result, Ok, Err}
use Rattle.migration_types.specs.Sessions.{Recorded}
use Rattle.completeness.specs.Complete.{IsComplete}
use Rattle.completeness.specs.declared.lack.Extent.{Extent}
use Rattle.command_texts.specs.declared.answer.Answer.{Answer}
use Rattle.session_answers.specs.declared.forms.LackForm.{LackForm}
use Rattle.session_answers.specs.Lacks.{IsLack}

-- the answer stays as it was, and the session is complete if the status is 0
pub record Stays (extent : Extent) (s : Recorded) (before after : Answer) : Type 0 where
  pub same : after ≡ before
  pub complete : before.status ≡ 0 → IsComplete extent s

-- the status was 0 and is 1 now, and the answer says what is missing first
pub record Becomes (tell : ℕ → ℕ) (extent : Extent) (form : LackForm) (s : Recorded) (before after : Answer) : Type 0 where
  pub was_well : before.status ≡ 0
  pub lack : IsLack tell extent form s after.text.items
  pub refused : after.status ≡ 1

-- an answer before and after the check that a session is complete, given what was read from the session's text
abbrev pub IsHeld : (ℕ → ℕ) → Extent → LackForm → Result Recorded ℕ → Answer → Answer → Type 0
IsHeld tell extent form (Ok s) before after = Stays extent s before after ⊎ Becomes tell extent form s before after
IsHeld tell extent form (Err line) before after = after ≡ before

-- the same if an extent is asked for, and otherwise the answer stays as it was
abbrev pub IsHeldWhere : (ℕ → ℕ) → Option Extent → LackForm → Result Recorded ℕ → Answer → Answer → Type 0
IsHeldWhere tell None form read before after = after ≡ before
IsHeldWhere tell (Some extent) form read before after = IsHeld tell extent form read before after
