use Rattle.std.proofs.Common.{◌∙◌, List, ℕ, [], ◌∷◌, ◌++◌, ap, refl}
use Rattle.std.proofs.lemmas.List.{append_assoc}
use Rattle.audit_report.specs.RefusalText.{refusal_text}
use Rattle.session_answers.proofs.telling.print_refused.Goals as goal

pub returns : goal.returns
returns g c =
    let words = c.as_bytes.result.now in
    let said = refusal_text (g.L.Lines.tell c.args.lines.now c.args.line) in
    let first = c.in_ok-push_refused_session_by.ensures ∙ ap (λ (t : List ℕ). t ++ said) c.new-text.ensures.items in
    let told = c.in_ok-extend_from_slice.ensures.items ∙ ap (λ (t : List ℕ). t ++ words) first in
    record {
      words = words ++ 10 ∷ [];
      is_line = (words, refl);
      text_is = c.in_ok-extend_from_slice-2.ensures.items ∙ ap (λ (t : List ℕ). t ++ 10 ∷ []) told ∙ append_assoc said words (10 ∷ []);
    }
