-- What holds of a session that was read holds of whatever session the bytes spell.
use Rattle.std.proofs.Common.{ℕ, List, sym, subst}
use Rattle.text_lines.specs.Text.{IsSpelling, IsUnambiguous}
use Rattle.migration_types.specs.Sessions.{Recorded}
use Rattle.session_log.specs.Grammar.{SpellsSession}
use Rattle.migration_types.specs.Certs.{Certified}
use Rattle.cert_text.specs.Grammar.{SpellsCert}
use Rattle.audit_model.specs.Mergings.{spelled}
use Rattle.audit_model.specs.World.{IsSafeOrder}
use Rattle.judged_texts.specs.Checked.{OfSpelled, ReplaysClean}

pub of_spelled : (text : List ℕ) (s : Recorded) (Has : Recorded → Type 0) → IsUnambiguous SpellsSession → IsSpelling SpellsSession s text → Has s → OfSpelled text Has
of_spelled text s Has laws spelled has other also = subst Has (sym (laws.one_value other s text also spelled)) has

-- the certificate that was read is the one that its text spells
pub replays : (text : List ℕ) (s : Recorded) (c : Certified) → IsUnambiguous SpellsCert → IsSpelling SpellsCert c text → IsSafeOrder s (spelled c.runs) → ReplaysClean text s
replays text s c laws spelled_is safe other also = subst (λ (d : Certified). IsSafeOrder s (spelled d.runs)) (sym (laws.one_value other c text also spelled_is)) safe
