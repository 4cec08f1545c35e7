-- Where the verdict on two texts is yes, the headline holds of them.
use Rattle.std.proofs.Common.{◌≡◌, ℕ, List, Result, Ok, subst}
use Rattle.std.specs.Prelude.{IfOk}
use Rattle.std.specs.declared.alloc.AllocError.{AllocError}
use Rattle.text_lines.specs.Text.{IsUnambiguous}
use Rattle.migration_types.specs.Certs.{Certified}
use Rattle.migration_types.specs.Sessions.{Recorded}
use Rattle.session_log.specs.Grammar.{SpellsSession}
use Rattle.cert_text.specs.Grammar.{SpellsCert}
use Rattle.audit_model.specs.Mergings.{HasMerging, spelled}
use Rattle.audit_model.specs.World.{IsSafe}
use Rattle.audit_model.specs.Laws.{FindsResident, IsCertified, IsMigrated, PlacedOnce, PlacedUntouched, ReadsFlat, ReleasedAsZeros}
use Rattle.cert_check.specs.declared.verdict.Verdict.{Verdict}
use Rattle.cert_check.specs.declared.verdict.Verdict.TheVariants.{Yes}
use Rattle.judged_texts.specs.Checked.{HeadlineHolds, IsTextVerdict, ReplaysClean}
use Rattle.judged_texts.proofs.Spelled.{of_spelled, replays}

pub headline_at_yes : IsUnambiguous SpellsSession → IsUnambiguous SpellsCert → ((s : Recorded) (c : Certified) → IsCertified s c → IsMigrated s) → (session cert : List ℕ) → IsTextVerdict session cert Yes → HeadlineHolds session cert
headline_at_yes sessions certs laws session cert is =
    let s = is.recorded in
    let c = is.certified in
    let certified : IsCertified s c = record { is_session = is.session_is.1.0; shape = is.verdict_is.0; certificate = is.verdict_is.1 } in
    let migrated = laws s c certified in
    let of = λ (Has : Recorded → Type 0). of_spelled session s Has sessions is.session_is in
    record {
      one_session = record { recorded = s; session_is = is.session_is; only_one = λ other also. sessions.one_value other s session also is.session_is };
      safe = of IsSafe migrated.safe;
      replays_clean = of (ReplaysClean cert) (replays cert s c certs is.cert_is (migrated.safe (spelled c.runs) certified.certificate.merging));
      has_merging = of HasMerging migrated.has_merging;
      finds_resident = of FindsResident migrated.finds_resident;
      reads_flat = of ReadsFlat migrated.reads_flat;
      placed_once = of PlacedOnce migrated.placed_once;
      placed_untouched = of PlacedUntouched migrated.placed_untouched;
      released_as_zeros = of ReleasedAsZeros migrated.released_as_zeros;
    }

-- and so where it is answered
pub headline_of : (session cert : List ℕ) (found : Result Verdict AllocError) → ((session cert : List ℕ) → IsTextVerdict session cert Yes → HeadlineHolds session cert) → IfOk found (IsTextVerdict session cert) → found ≡ Ok Yes → HeadlineHolds session cert
headline_of session cert found law is answered = law session cert (subst (λ (r : Result Verdict AllocError). IfOk r (IsTextVerdict session cert)) answered is)
