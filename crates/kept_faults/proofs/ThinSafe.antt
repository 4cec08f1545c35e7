-- Thinned logs are safe exactly where the session is.
use Rattle.std.proofs.Common.{◌↔◌, Bool, List}
use Rattle.migration_types.specs.Sessions.{Recorded}
use Rattle.audit_model.specs.Fitting.{Fits}
use Rattle.audit_model.specs.Mergings.{HasMerging}
use Rattle.audit_model.specs.World.{IsSafe}
use Rattle.audit_model.specs.Shape.{IsRightShape}
use Rattle.audit_model.proofs.Unsafe.{fitting_exactly}
use Rattle.kept_faults.specs.Thinned.{thinned, IsThinning}
use Rattle.kept_faults.proofs.ThinFits.{fits_thin}
use Rattle.kept_faults.proofs.ThinLater.{same_clean}
use Rattle.kept_faults.proofs.ThinMergings.{same_mergings}
use Rattle.kept_faults.proofs.ThinShape.{same_shape}

pub same_safe : (marks : List Bool) (s : Recorded) → IsThinning marks s → Fits s → IsRightShape s → HasMerging s → IsSafe s ↔ IsSafe (thinned marks s)
same_safe marks s thin fits shape has =
    let whole = fitting_exactly s fits shape has in
    let parts = fitting_exactly (thinned marks s) (fits_thin marks s thin.has_marks fits) ((same_shape marks s thin).0 shape) ((same_mergings marks s thin).0 has) in
    let clean = same_clean marks s thin in
    (λ safe. parts.1 (clean.0 (whole.0 safe)), λ safe. whole.1 (clean.1 (parts.0 safe)))
