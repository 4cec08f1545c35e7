-- What a yes promises of a session, by what its certificate does, and what it promises of whatever else says the same.
use Rattle.std.proofs.Common.{◌≡◌}
use Rattle.std.specs.Prelude.{Result, Ok, Err, IfOk}
use Rattle.std.specs.declared.alloc.AllocError.{AllocError}
use Rattle.migration_types.specs.Certs.{Certified}
use Rattle.migration_types.specs.Sessions.{Recorded, IsSession}
use Rattle.audit_model.specs.Laws.{IsCertified, IsMigrated}
use Rattle.cert_check.specs.declared.verdict.Verdict.{Verdict}
use Rattle.cert_check.specs.declared.verdict.Verdict.TheVariants.{SessionText, CertText, Shape, Pages, Runs, Page, Yes}
use Rattle.cert_check.specs.Verdicts.{IsVerdict}
use Rattle.cert_check.specs.Promises.{Promises, IsReplayedBy}

pub promised : {IsYes : Type 0} (s : Recorded) (Replays : Recorded → Type 0) → IsMigrated s → Replays s → Promises IsYes (λ Has. Has s) Replays
promised s Replays is replays = record {
  safe = λ _. is.safe;
  replays_clean = λ _. replays;
  has_merging = λ _. is.has_merging;
  finds_resident = λ _. is.finds_resident;
  reads_flat = λ _. is.reads_flat;
  placed_once = λ _. is.placed_once;
  placed_untouched = λ _. is.placed_untouched;
  released_as_zeros = λ _. is.released_as_zeros;
}

-- what is not answered promises nothing
no_promise : {IsYes : Type 0} (Of : (Recorded → Type 0) → Type 0) (Replays : Recorded → Type 0) → (IsYes → ⊥) → Promises IsYes Of Replays
no_promise Of Replays no_yes = record {
  safe = λ yes. absurd (no_yes yes);
  replays_clean = λ yes. absurd (no_yes yes);
  has_merging = λ yes. absurd (no_yes yes);
  finds_resident = λ yes. absurd (no_yes yes);
  reads_flat = λ yes. absurd (no_yes yes);
  placed_once = λ yes. absurd (no_yes yes);
  placed_untouched = λ yes. absurd (no_yes yes);
  released_as_zeros = λ yes. absurd (no_yes yes);
}

-- a verdict promises what it says of a certificate where it is yes
pub promises_of : (s : Recorded) (c : Certified) (r : Result Verdict AllocError) → IsSession s → (IsCertified s c → IsMigrated s) → (IsCertified s c → IsReplayedBy c s) → IfOk r (IsVerdict s c) → Promises (r ≡ Ok Yes) (λ Has. Has s) (IsReplayedBy c)
promises_of s c (Ok Yes) fits migrated replays is = let certified : IsCertified s c = record { is_session = fits; shape = is.0; certificate = is.1 } in promised s (IsReplayedBy c) (migrated certified) (replays certified)
promises_of s c (Ok (SessionText n)) fits migrated replays is = no_promise _ _ (λ e. absurd (cc))
promises_of s c (Ok (CertText n)) fits migrated replays is = no_promise _ _ (λ e. absurd (cc))
promises_of s c (Ok (Shape f)) fits migrated replays is = no_promise _ _ (λ e. absurd (cc))
promises_of s c (Ok Pages) fits migrated replays is = no_promise _ _ (λ e. absurd (cc))
promises_of s c (Ok (Runs n)) fits migrated replays is = no_promise _ _ (λ e. absurd (cc))
promises_of s c (Ok (Page n)) fits migrated replays is = no_promise _ _ (λ e. absurd (cc))
promises_of s c (Err e) fits migrated replays is = no_promise _ _ (λ e. absurd (cc))
