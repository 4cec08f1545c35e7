-- The words beside an answer to what is asked about a session.
use Rattle.std.proofs.Common.{◌≡◌, ◌∙◌, ℕ, List, Option, Some, None, Result, Ok, Err, IfOk, inl, inr, refl, sym, ap}
use Rattle.std.specs.Prelude.{option_map}
use Rattle.std.specs.Global.{Vec}
use Rattle.text_lines.specs.Text.{IsRefusalLine, IsSpelling, IsUnambiguous}
use Rattle.migration_types.specs.Sessions.{Recorded}
use Rattle.session_log.specs.Grammar.{SpellsSession}
use Rattle.completeness.specs.declared.lack.Extent.{Extent}
use Rattle.judge_commands.specs.Noted.{IsBeside, note_on}

module _ (complete : Option Extent) (text : List ℕ) where
  -- there are none beside the refusal of a text
  pub none_beside : (line : ℕ) → IsRefusalLine SpellsSession text line → (words : List ℕ) → IsBeside complete text 0 words → ⊥
  none_beside line refused words (inl told) = refused.spells_nothing told.recorded told.is_spelled
  none_beside line refused words (inr reason) = refused.spells_nothing reason.recorded reason.is_spelled

  -- there are none beside the answer that a session is clean where it has no note
  not_noted : IsUnambiguous SpellsSession → (s : Recorded) → IsSpelling SpellsSession s text → None ≡ note_on s → (words : List ℕ) → IsBeside complete text 0 words → ⊥
  not_noted one s spelled none words (inl told) =
      let same = one.one_value told.recorded s text told.is_spelled spelled in
      let both : None ≡ Some words = none ∙ (sym (ap note_on same) ∙ told.are_words) in
      absurd cc
  not_noted one s spelled none words (inr reason) = absurd (reason.is_refused refl)

  pub all_noted : {E : Type 0} → IsUnambiguous SpellsSession → (s : Recorded) → IsSpelling SpellsSession s text → (found : Result (Option (Vec ℕ)) E) → IfOk found (λ note. option_map (λ v. v.items) note ≡ note_on s) → IfOk found (λ note. note ≡ None → (words : List ℕ) → IsBeside complete text 0 words → ⊥)
  all_noted one s spelled (Ok found) e = λ none words. not_noted one s spelled (sym (ap (λ (n : Option (Vec ℕ)). option_map (λ v. v.items) n) none) ∙ e) words
  all_noted one s spelled (Err error) e = tt
