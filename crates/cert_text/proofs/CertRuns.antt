-- What is known of a certificate's text is known of its runs'.
use Rattle.std.proofs.Common.{ℕ, List, refl}
use Rattle.text_lines.specs.Text.{Begins}
use Rattle.cert_text.specs.Grammar.{SpellsCert, SpellsCertRuns}

pub cert_runs_begin : (lines : List (List ℕ)) → Begins SpellsCert lines → Begins SpellsCertRuns lines
cert_runs_begin lines b = (b.0.runs, b.1, (b.0, b.2, refl))

pub no_cert_runs : (lines : List (List ℕ)) → (Begins SpellsCert lines → ⊥) → Begins SpellsCertRuns lines → ⊥
no_cert_runs lines stops b = stops (b.2.0, b.1, b.2.1)
