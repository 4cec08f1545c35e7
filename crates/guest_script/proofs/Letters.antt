-- Letters of fates.
use Rattle.std.proofs.Common.{◌≡◌, ◌≢◌, ℕ, zero, suc, ◌<◌, List, [], ◌∷◌, ◌++◌, length, map, get_or, refl, sym, ap, ◌∙◌, subst, arith}
use Rattle.migration_events.specs.declared.events.Fate.{Fate}
use Rattle.std.proofs.lemmas.List.{append_cancel_left}
use Rattle.guest_script.specs.Scripts.{fate_letter, fates_text}

letter_at : (fates : List Fate) (i d : ℕ) → i < length (map fate_letter fates) → (fate : Fate) × (get_or (map fate_letter fates) i d ≡ fate_letter fate)
letter_at [] i d lt = absurd (omega arith)
letter_at (fate ∷ fates) zero d lt = (fate, refl)
letter_at (fate ∷ fates) (suc i) d lt = letter_at fates i d (omega arith)

-- a letter of no fate
pub no_fates : (letters : List ℕ) (i d : ℕ) → i < length letters → ((fate : Fate) → get_or letters i d ≢ fate_letter fate) → (fates : List Fate) → letters ≢ map fate_letter fates
no_fates letters i d lt none fates e =
    let at = letter_at fates i d (subst (λ (t : List ℕ). i < length t) e lt) in
    none at.0 (ap (λ (t : List ℕ). get_or t i d) e ∙ at.1)

-- letters that are no dash and of no fates
pub no_fates_text : (key line text : List ℕ) → line ≡ key ++ text → text ≢ 45 ∷ [] → ((fates : List Fate) → text ≢ map fate_letter fates) → (fates : List Fate) → line ≢ key ++ fates_text fates
no_fates_text key line text is dash none [] e = dash (append_cancel_left key text (45 ∷ []) (sym is ∙ e))
no_fates_text key line text is dash none (fate ∷ fates) e = none (fate ∷ fates) (append_cancel_left key text (map fate_letter (fate ∷ fates)) (sym is ∙ e))
