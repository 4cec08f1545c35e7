-- Answers that ask for a complete session.
use Rattle.std.proofs.Common.{◌≡◌, ℕ, ◌<◌, inl, inr, List, Option, Some, None, IfOk, Result, Ok, Err, sym, ap, ◌∙◌, subst, arith}
use Rattle.std.specs.declared.alloc.AllocError.{AllocError}
use Rattle.text_lines.specs.Text.{IsUnambiguous}
use Rattle.text_lines.specs.Answer.{IsRead}
use Rattle.migration_types.specs.Sessions.{Recorded}
use Rattle.session_log.specs.Grammar.{SpellsSession}
use Rattle.completeness.specs.Complete.{IsComplete}
use Rattle.completeness.specs.declared.lack.Extent.{Extent}
use Rattle.command_texts.specs.declared.answer.Answer.{Answer}
use Rattle.completeness.specs.declared.lack.Lack.{Lack}
use Rattle.session_answers.specs.declared.forms.LackForm.{LackForm}
use Rattle.session_answers.specs.Lacks.{TellsLack}
use Rattle.judge_commands.specs.Completed.{IsCompleteAnswer, IsDemanded}
use Rattle.judge_commands.specs.inner.Held.{IsHeld, IsHeldWhere}

module _ (tell : ℕ → ℕ) (form : LackForm) (IsPlain : List ℕ → ℕ → Type 0) (one : IsUnambiguous SpellsSession) (text : List ℕ) where
  -- an answer that is held to what was read answers a command that asks for a complete session
  held_answer : (extent : Extent) (read : Result Recorded ℕ) (before after : Answer) → IsRead SpellsSession text read → IsPlain before.text.items before.status → IsHeld tell extent form read before after → IsCompleteAnswer extent (TellsLack tell form) IsPlain text after.text.items after.status
  held_answer extent (Err line) before after refused is same = inl (record {
    is_plain = subst (λ (a : Answer). IsPlain a.text.items a.status) (sym same) is;
    complete = λ zero other spelled. absurd (refused.spells_nothing other spelled);
  })
  held_answer extent (Ok s) before after spelled is (inl stays) = inl (record {
    is_plain = subst (λ (a : Answer). IsPlain a.text.items a.status) (sym stays.same) is;
    complete = λ zero other spells. subst (λ (x : Recorded). IsComplete extent x) (sym (one.one_value other s text spells spelled)) (stays.complete (sym (ap (λ (a : Answer). a.status) stays.same) ∙ zero));
  })
  held_answer extent (Ok s) before after spelled is (inr becomes) = inr (record {
    before = before.text.items;
    was_well = subst (λ (n : ℕ). IsPlain before.text.items n) becomes.was_well is;
    recorded = s;
    is_spelled = spelled;
    lacking = becomes.lack.lacking;
    lacks = becomes.lack.lacks;
    says = becomes.lack.says;
    refused = becomes.refused;
  })

  -- the same where it may be asked for
  pub held_where : (complete : Option Extent) (read : Result Recorded ℕ) (before after : Answer) → IsRead SpellsSession text read → IsPlain before.text.items before.status → IsHeldWhere tell complete form read before after → IsDemanded complete (TellsLack tell form) IsPlain text after.text.items after.status
  held_where None read before after is_read is same = subst (λ (a : Answer). IsPlain a.text.items a.status) (sym same) is
  held_where (Some extent) read before after is_read is is_held = held_answer extent read before after is_read is is_held

  -- and where memory may have run out
  pub held_all : (complete : Option Extent) (read : Result Recorded ℕ) (before : Answer) (held : Result Answer AllocError) → IsRead SpellsSession text read → IsPlain before.text.items before.status → IfOk held (λ after. IsHeldWhere tell complete form read before after) → IfOk held (λ a. IsDemanded complete (TellsLack tell form) IsPlain text a.text.items a.status)
  held_all complete read before (Ok after) is_read is is_held = held_where complete read before after is_read is is_held
  held_all complete read before (Err error) is_read is is_held = tt

-- the status of an answer that is held stays 0 or 1
pub demanded_few : (complete : Option Extent) (IsLackTold : Recorded → Lack → List ℕ → Type 0) (IsPlain : List ℕ → ℕ → Type 0) (session text : List ℕ) (status : ℕ) → ((said : List ℕ) (n : ℕ) → IsPlain said n → n < 2) → IsDemanded complete IsLackTold IsPlain session text status → status < 2
demanded_few None IsLackTold IsPlain session text status few h = few text status h
demanded_few (Some extent) IsLackTold IsPlain session text status few (inl h) = few text status h.is_plain
demanded_few (Some extent) IsLackTold IsPlain session text status few (inr h) = rw h.refused (omega arith)
