-- A line that was taken, as each text's reader tells it.
use Rattle.std.proofs.Common.{◌≡◌, ◌≢◌, ℕ, List, [], ◌∷◌, ◌++◌, refl, sym, ap, subst, ◌∙◌}
use Rattle.std.specs.Prelude.{Result, Ok, Err, IfOk, IfErr, OnErr}
use Rattle.text_lines.specs.Text.{Begins}
use Rattle.text_lines.specs.declared.FaultKind.{FaultKind}
use Rattle.text_lines.specs.declared.FaultKind.TheVariants.{Memory}
use Rattle.session_grammar.specs.declared.stage.Stage.{Stage}
use Rattle.session_grammar.specs.Grammar.{SpellsSession}
use Rattle.session_grammar.specs.inner.Held.{SessionDraft, held_onto, Live}
use Rattle.session_log.specs.inner.Steps.{Steps}
use Rattle.session_grammar.proofs.Laws.{held_line}

pub taken : (stage : Stage) (old new : SessionDraft) (line : List ℕ) (r : Result Stage FaultKind) → Steps stage old line new r → IfOk r (λ next. Live next new × (held_onto next new [] ≡ held_onto stage old [] ++ line ∷ []))
taken stage old new line (Ok next) s = (s.0, s.1 ∙ held_line stage old (held_onto stage old []) line refl)
taken stage old new line (Err kind) s = tt

pub refused : (stage : Stage) (old new : SessionDraft) (line : List ℕ) (r : Result Stage FaultKind) → Steps stage old line new r → IfErr r (λ kind. kind ≢ Memory → Begins SpellsSession (held_onto stage old [] ++ line ∷ []) → ⊥)
refused stage old new line (Ok next) s = tt
refused stage old new line (Err kind) s = λ other b. s.1 other (subst (Begins SpellsSession) (sym (held_line stage old (held_onto stage old []) line refl)) b)

pub still_live : (stage : Stage) (old new : SessionDraft) (line : List ℕ) (r : Result Stage FaultKind) → Live stage old → Steps stage old line new r → OnErr r (Live stage new)
still_live stage old new line (Ok next) live s = tt
still_live stage old new line (Err kind) live s = subst (Live stage) (sym s.0) live

pub still_held : (stage : Stage) (old new : SessionDraft) (line : List ℕ) (r : Result Stage FaultKind) → Steps stage old line new r → OnErr r (held_onto stage new [] ≡ held_onto stage old [])
still_held stage old new line (Ok next) s = tt
still_held stage old new line (Err kind) s = ap (λ (d : SessionDraft). held_onto stage d []) s.0
