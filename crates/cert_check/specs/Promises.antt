-- What the verdict `yes` promises.
use Rattle.migration_types.specs.Certs.{Certified}
use Rattle.migration_types.specs.Sessions.{Recorded}
use Rattle.audit_model.specs.Mergings.{HasMerging, spelled}
use Rattle.audit_model.specs.World.{IsSafe, IsSafeOrder}
use Rattle.audit_model.specs.Laws.{FindsResident, ReadsFlat, PlacedOnce, PlacedUntouched, ReleasedAsZeros}

-- the merging that the certificate's runs spell has no record whose demand fails
abbrev pub IsReplayedBy : Certified → Recorded → Type 0
IsReplayedBy c s = IsSafeOrder s (spelled c.runs)

-- if the verdict is yes, what is promised about the session that `Of` speaks of
pub record Promises (IsYes : Type 0) (Of : (Recorded → Type 0) → Type 0) (ReplaysClean : Recorded → Type 0) : Type 0 where
  pub safe : IsYes → Of IsSafe
  pub replays_clean : IsYes → Of ReplaysClean
  pub has_merging : IsYes → Of HasMerging
  pub finds_resident : IsYes → Of FindsResident
  pub reads_flat : IsYes → Of ReadsFlat
  pub placed_once : IsYes → Of PlacedOnce
  pub placed_untouched : IsYes → Of PlacedUntouched
  pub released_as_zeros : IsYes → Of ReleasedAsZeros
