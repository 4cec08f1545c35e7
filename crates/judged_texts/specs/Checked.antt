-- The verdict on the texts of a session and a certificate.
use Rattle.std.specs.Prelude.{◌≡◌, ℕ, List}
use Rattle.text_lines.specs.Text.{IsSpelling, IsRefusalLine}
use Rattle.migration_types.specs.Certs.{Certified}
use Rattle.migration_types.specs.Sessions.{Recorded}
use Rattle.session_log.specs.Grammar.{SpellsSession}
use Rattle.cert_text.specs.Grammar.{SpellsCert}
use Rattle.audit_model.specs.Mergings.{HasMerging, spelled}
use Rattle.audit_model.specs.World.{IsSafe, IsSafeOrder}
use Rattle.audit_model.specs.Laws.{FindsResident, ReadsFlat, PlacedOnce, PlacedUntouched, ReleasedAsZeros}
use Rattle.cert_check.specs.declared.verdict.Verdict.{Verdict}
use Rattle.cert_check.specs.declared.verdict.Verdict.TheVariants.{SessionText, CertText}
use Rattle.cert_check.specs.Verdicts.{IsVerdict}

-- both texts are spellings, and this is the verdict on what they spell
pub record IsJudged (session cert : List ℕ) (verdict : Verdict) : Type 0 where
  pub recorded : Recorded
  pub certified : Certified
  pub session_is : IsSpelling SpellsSession recorded session
  pub cert_is : IsSpelling SpellsCert certified cert
  pub verdict_is : IsVerdict recorded certified verdict

-- the first text is a spelling, and the second is refused at this line
pub record IsCertRefused (session cert : List ℕ) (line : ℕ) : Type 0 where
  pub recorded : Recorded
  pub session_is : IsSpelling SpellsSession recorded session
  pub refused : IsRefusalLine SpellsCert cert line

-- the first that applies: the session's text is refused, the certificate's is, or the verdict on what they spell
abbrev pub IsTextVerdict : List ℕ → List ℕ → Verdict → Type 0
IsTextVerdict session cert (SessionText line) = IsRefusalLine SpellsSession session line
IsTextVerdict session cert (CertText line) = IsCertRefused session cert line
IsTextVerdict session cert verdict = IsJudged session cert verdict

-- the bytes spell exactly one session
pub record SpellsOneSession (session : List ℕ) : Type 0 where
  pub recorded : Recorded
  pub session_is : IsSpelling SpellsSession recorded session
  pub only_one : (other : Recorded) → IsSpelling SpellsSession other session → other ≡ recorded

-- the session that the bytes spell has this property
abbrev pub OfSpelled : List ℕ → (Recorded → Type 0) → Type 0
OfSpelled session Has = (recorded : Recorded) → IsSpelling SpellsSession recorded session → Has recorded

-- the merging that the runs of the certificate's text spell has no record whose demand fails
abbrev pub ReplaysClean : List ℕ → Recorded → Type 0
ReplaysClean cert recorded = (certified : Certified) → IsSpelling SpellsCert certified cert → IsSafeOrder recorded (spelled certified.runs)

-- The headline: the first text spells one session, and each claim holds for it. The claim about runs is about those in
-- the second text.
pub record HeadlineHolds (session cert : List ℕ) : Type 0 where
  pub one_session : SpellsOneSession session
  pub safe : OfSpelled session IsSafe
  pub replays_clean : OfSpelled session (ReplaysClean cert)
  pub has_merging : OfSpelled session HasMerging
  pub finds_resident : OfSpelled session FindsResident
  pub reads_flat : OfSpelled session ReadsFlat
  pub placed_once : OfSpelled session PlacedOnce
  pub placed_untouched : OfSpelled session PlacedUntouched
  pub released_as_zeros : OfSpelled session ReleasedAsZeros
