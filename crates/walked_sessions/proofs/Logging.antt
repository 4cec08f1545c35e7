-- A log that is held.
use Rattle.std.proofs.Common.{◌≡◌, ◌∙◌, ◌<◌, ◌≤◌, List, [], ◌∷◌, ◌++◌, length, ap, arith, subst, sym}
use Rattle.migration_types.specs.Extents.{Extent}
use Rattle.migration_types.specs.Limits.{limits, longest_log}
use Rattle.migration_types.specs.declared.size.Size.{Size}
use Rattle.migration_types.specs.declared.size.Size.TheVariants.{Large}
use Rattle.migration_types.specs.declared.version.Version.{Version}
use Rattle.walked_sessions.specs.Made.{sized}
use Rattle.walked_sessions.specs.declared.logs.HeldLog.{HeldLog}
use Rattle.walked_sessions.specs.declared.needs.Needs.{Needs}
use Rattle.walked_sessions.specs.Fitting.{LogFits}
use Rattle.walked_sessions.specs.Kept.{IsLog}
use Rattle.walked_sessions.specs.inner.Kept.{IsNoLog}
use Rattle.walked_sessions.specs.Needs.{Allows, AreNeeds}
use Rattle.walked_sessions.specs.inner.Needs.{AreBoth}
use Rattle.walked_sessions.proofs.Pushed.{all_front, all_last, length_push}
use Rattle.recorder_files.proofs.Elements.{all_push}

-- one more record is held
pub log_push : {X : Type 0} (Fits : Version → Extent → X → Type 0) (machine : Extent) (log new : HeldLog X) (records : List X) (rec x : X) (needs : Needs) → IsLog Fits machine log records → length log.items.items < longest_log → rec ≡ x → new.items.items ≡ log.items.items ++ rec ∷ [] → AreNeeds (λ version size. Fits version (sized size machine) x) needs → AreBoth log.needs needs new.needs → IsLog Fits machine new (records ++ x ∷ [])
log_push {X} Fits machine log new records rec x needs h room same items need both = record {
  items = items ∙ ap (λ (xs : List X). xs ++ rec ∷ []) h.items ∙ ap (λ (y : X). records ++ y ∷ []) same;
  few =
      let count = ap length h.items in
      let long = length_push records x in
      omega (arith, room, count, long);
  needs = λ version size. (
    λ each. (both version size).0 (
      (h.needs version size).0 (all_front (Fits version (sized size machine)) records x each),
      (need version size).0 (all_last (Fits version (sized size machine)) records x each),
    ),
    λ allows.
        let parts = (both version size).1 allows in
        all_push (Fits version (sized size machine)) records x ((h.needs version size).1 parts.0) ((need version size).1 parts.1),
  );
}

-- it is within the limits of a version and a size exactly if its needs and its length are
pub log_fits : {X : Type 0} (Fits : Version → Extent → X → Type 0) (machine e : Extent) (log : HeldLog X) (records : List X) (version : Version) (size : Size) → machine ≡ sized Large e → IsLog Fits machine log records → Allows version size log.needs × (length log.items.items ≤ (limits size).records) → LogFits Fits e records version size
log_fits {X} Fits machine e log records version size at h fits =
    let count = ap length h.items in
    subst (λ (m : Extent). LogFits Fits m records version size) at ((h.needs version size).1 fits.0, omega (arith, fits.1, count))

pub fits_log : {X : Type 0} (Fits : Version → Extent → X → Type 0) (machine e : Extent) (log : HeldLog X) (records : List X) (version : Version) (size : Size) → machine ≡ sized Large e → IsLog Fits machine log records → LogFits Fits e records version size → Allows version size log.needs × (length log.items.items ≤ (limits size).records)
fits_log {X} Fits machine e log records version size at h fits =
    let count = ap length h.items in
    let here = subst (λ (m : Extent). LogFits Fits m records version size) (sym at) fits in
    ((h.needs version size).0 here.0, omega (arith, here.1, count))

-- no session has such a log of a machine with as many pages and cells
pub no_log : {X : Type 0} (Fits : Version → Extent → X → Type 0) (machine e : Extent) (records : List X) → machine ≡ sized Large e → IsNoLog Fits machine records → IsNoLog Fits e records
no_log {X} Fits machine e records at h = subst (λ (m : Extent). IsNoLog Fits m records) at h
