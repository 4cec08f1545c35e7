-- Runs that take no more records than a session has are within the limits of the session's version and size.
use Rattle.std.proofs.Common.{◌≡◌, ℕ, ◌+◌, ◌<◌, ◌≤◌, ◌⊎◌, inl, inr, Bool, true, false, cond, List, [], ◌∷◌, length, refl, ap, ◌∙◌, subst, arith}
use Rattle.std.specs.List.{AllByRecursion}
use Rattle.std.proofs.lemmas.Bool.{cases_lt}
use Rattle.migration_types.specs.declared.records.LogName.{LogName}
use Rattle.migration_types.specs.declared.records.LogName.TheVariants.{Guest, Source, Link, Lane, Pager}
use Rattle.migration_types.specs.declared.records.LaneRec.{LaneRec}
use Rattle.migration_types.specs.declared.records.LaneRec.TheVariants.{Down}
use Rattle.migration_types.specs.declared.cert.Run.{Run}
use Rattle.migration_types.specs.declared.version.Version.{Version}
use Rattle.migration_types.specs.declared.version.Version.TheVariants.{One, Two}
use Rattle.migration_types.specs.declared.size.Size.{Size}
use Rattle.migration_types.specs.Limits.{limits, longest_log, most_runs}
use Rattle.migration_types.specs.Certs.{LogFits, RunFits, Alternate, AreRuns}
use Rattle.migration_types.specs.Sessions.{Recorded, IsSession, HasLane, LaneRecFits}
use Rattle.audit_model.specs.Names.{log_length, same_log}
use Rattle.audit_model.specs.Mergings.{Cursors, moved, at_start, run_names, spelled, spelled_from}
use Rattle.audit_model.specs.Walks.{cursors_from}
use Rattle.merge_runs.proofs.Walking.{cursors_run, cursors_append, own_moved}
use Rattle.cert_maker.specs.inner.Taking.{TakeRecords}

-- ---- how many records were taken

abbrev pub total : Cursors → ℕ
total c = c Guest + c Source + c Link + c Lane + c Pager

pub total_moved : (c : Cursors) (log : LogName) (n : ℕ) → total (moved c log n) ≡ total c + n
total_moved c Guest n = omega arith
total_moved c Source n = omega arith
total_moved c Link n = omega arith
total_moved c Lane n = omega arith
total_moved c Pager n = omega arith

moved_grows : (c : Cursors) (log : LogName) (n : ℕ) (m : LogName) → c m ≤ moved c log n m
moved_grows c log n m = go (same_log log m)
  where
    go : (t : Bool) → c m ≤ cond t (c m + n) (c m)
    go true = omega arith
    go false = omega arith

-- the runs behind a first one go on where it ends
spelled_on : (c : Cursors) (run : Run) (runs : List Run) → cursors_from c (spelled_from c (run ∷ runs)) ≡ cursors_from (moved c run.log run.count) (spelled_from (moved c run.log run.count) runs)
spelled_on c run runs =
    let next : Cursors = moved c run.log run.count in
    cursors_append c (run_names run.log (c run.log) run.count) (spelled_from next runs) ∙ ap (λ (d : Cursors). cursors_from d (spelled_from next runs)) (cursors_run c run.log (c run.log) run.count)

runs_grow : (c : Cursors) (runs : List Run) (log : LogName) → c log ≤ cursors_from c (spelled_from c runs) log
runs_grow c [] log = omega arith
runs_grow c (run ∷ runs) log = omega (arith, moved_grows c run.log run.count log, runs_grow (moved c run.log run.count) runs log, ap (λ (d : Cursors). d log) (spelled_on c run runs))

-- runs that take records are no more than these
few_runs : (c : Cursors) (runs : List Run) → TakeRecords runs → total c + length runs ≤ total (cursors_from c (spelled_from c runs))
few_runs c [] some = omega arith
few_runs c (run ∷ runs) some = omega (arith, some.0, total_moved c run.log run.count, few_runs (moved c run.log run.count) runs some.1, ap total (spelled_on c run runs))

-- ---- what a session has

pub log_fits : (s : Recorded) (log : LogName) → IsSession s → log_length s log ≤ longest_log
log_fits s Guest limits = limits.few_guest
log_fits s Source limits = limits.few_source
log_fits s Link limits = limits.few_link
log_fits s Lane limits = limits.few_lane
log_fits s Pager limits = limits.few_pager

-- a log that has a record is one of the session's version
log_of_version : (s : Recorded) (log : LogName) → IsSession s → 0 < log_length s log → LogFits s.version log
log_of_version s Guest limits some = tt
log_of_version s Source limits some = tt
log_of_version s Link limits some = tt
log_of_version s Lane limits some = go s.lane limits.lane some
  where
    go : (records : List LaneRec) → AllByRecursion (LaneRecFits s.version s.geometry) records → 0 < length records → HasLane s.version
    go [] fits some = absurd (omega (arith, some))
    go (Down sending ∷ records) fits some = fits.0.0
log_of_version s Pager limits some = tt

-- a certificate may have a run of each record
few_records : (s : Recorded) (version : Version) → s.version ≡ version → IsSession s → total (log_length s) ≤ most_runs version s.geometry.size
few_records s One first limits = go (cases_lt 0 (length s.lane))
  where
    go : (0 < length s.lane) ⊎ (length s.lane ≤ 0) → total (log_length s) ≤ most_runs One s.geometry.size
    go (inl some) = absurd (subst HasLane first (log_of_version s Lane limits some))
    go (inr none) = omega (arith, none, limits.own Guest, limits.own Source, limits.own Link, limits.own Pager)
few_records s Two second limits = omega (arith, limits.own Guest, limits.own Source, limits.own Link, limits.own Lane, limits.own Pager)

-- ---- the limits

each_fits : (s : Recorded) → IsSession s → (c : Cursors) (runs : List Run) → TakeRecords runs → ((log : LogName) → cursors_from c (spelled_from c runs) log ≤ log_length s log) → AllByRecursion (RunFits s.version s.geometry.size) runs
each_fits s limits c [] some within = tt
each_fits s limits c (run ∷ runs) some within =
    let next : Cursors = moved c run.log run.count in
    let on : (log : LogName) → cursors_from next (spelled_from next runs) log ≤ log_length s log = λ log. subst (λ (d : Cursors). d log ≤ log_length s log) (spelled_on c run runs) (within log) in
    let there : run.count ≤ log_length s run.log = omega (arith, own_moved c run.log run.count, runs_grow next runs run.log, on run.log) in (
      record {
        log = log_of_version s run.log limits (omega (arith, some.0, there));
        some = some.0;
        few = omega (arith, there, limits.own run.log);
      },
      each_fits s limits next runs some.1 on,
    )

pub fitting_runs : (s : Recorded) (runs : List Run) → IsSession s → TakeRecords runs → Alternate runs → ((log : LogName) → cursors_from at_start (spelled runs) log ≤ log_length s log) → AreRuns s.version s.geometry.size runs
fitting_runs s runs limits some alternate within = record {
  few = omega (arith, few_runs at_start runs some, few_records s s.version refl limits, within Guest, within Source, within Link, within Lane, within Pager);
  each = each_fits s limits at_start runs some within;
  alternate = alternate;
}

-- ---- runs of both versions

some_of_fitting : (version : Version) (size : Size) (runs : List Run) → AllByRecursion (RunFits version size) runs → TakeRecords runs
some_of_fitting version size [] each = tt
some_of_fitting version size (run ∷ runs) each = (each.0.some, some_of_fitting version size runs each.1)

pub take_records : (version : Version) (size : Size) (runs : List Run) → AreRuns version size runs → TakeRecords runs
take_records version size runs fits = some_of_fitting version size runs fits.each
