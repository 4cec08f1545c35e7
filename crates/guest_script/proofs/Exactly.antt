-- What lines that came leave open, line by line.
use Rattle.std.proofs.Common.{◌≡◌, ℕ, List, [], ◌∷◌, ◌++◌, sym, ap, subst, ◌∙◌, append_assoc}
use Rattle.std.proofs.lemmas.List.{append-nil}
use Rattle.text_lines.specs.Text.{Begins}
use Rattle.guest_script.specs.inner.Exact.{Exact}

module _ {V : Type 0} (Spells Rest : V → List (List ℕ) → Type 0) (held : List (List ℕ)) (exact : Exact Spells Rest held) where
  -- one line more
  pub exact_step : (Next : V → List (List ℕ) → Type 0) (new : List (List ℕ)) (line : List ℕ) → new ≡ held ++ line ∷ [] → ((v : V) (more : List (List ℕ)) → Rest v (line ∷ more) → Next v more) → ((v : V) (more : List (List ℕ)) → Next v more → Rest v (line ∷ more)) → Exact Spells Next new
  exact_step Next new line grown on back = record {
    only = λ v more s. on v more (exact.only v (line ∷ more) (subst (Spells v) (ap (λ (t : List (List ℕ)). t ++ more) grown ∙ append_assoc held (line ∷ []) more) s));
    all = λ v more r. subst (Spells v) (sym (ap (λ (t : List (List ℕ)). t ++ more) grown ∙ append_assoc held (line ∷ []) more)) (exact.all v (line ∷ more) (back v more r));
  }

  pub exact_refuses : (line : List ℕ) → ((v : V) (more : List (List ℕ)) → Rest v (line ∷ more) → ⊥) → Begins Spells (held ++ line ∷ []) → ⊥
  exact_refuses line none b = none b.0 b.1 (exact.only b.0 (line ∷ b.1) (subst (Spells b.0) (append_assoc held (line ∷ []) b.1) b.2))

  pub exact_begins : (v : V) (more : List (List ℕ)) → Rest v more → Begins Spells held
  exact_begins v more r = (v, more, exact.all v more r)

  -- nothing more comes
  pub exact_whole : (v : V) → Rest v [] → Spells v held
  exact_whole v r = subst (Spells v) (append-nil held) (exact.all v [] r)

  pub exact_left : (v : V) → Spells v held → Rest v []
  exact_left v s = exact.only v [] (subst (Spells v) (sym (append-nil held)) s)
