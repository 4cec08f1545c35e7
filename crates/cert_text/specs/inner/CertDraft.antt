-- The lines of a reader of certificates.
use Rattle.std.specs.Prelude.{List, ℕ}
use Rattle.cert_text.specs.declared.cert_lines.CertParts.{CertParts}
use Rattle.cert_text.specs.declared.cert_lines.CertStage.{CertStage}
use Rattle.cert_text.specs.inner.Held.{CertDraft, held_by, Live}

abbrev pub draft_of : CertParts → CertDraft
draft_of p = record { version = p.runs.version; size = p.runs.size; pages = p.pages; entries = p.entries.items; runs = p.runs.lines }

abbrev pub held_at : CertStage → CertParts → List (List ℕ)
held_at stage p = held_by stage (draft_of p)

abbrev pub LiveAt : CertStage → CertParts → Type 0
LiveAt stage p = Live stage (draft_of p)
