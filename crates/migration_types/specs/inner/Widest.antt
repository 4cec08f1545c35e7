-- Runs within the limits of a version and a size are within those of the second version and the large size.
use Rattle.std.specs.Prelude.{ℕ, ◌≤◌, List, [], ◌∷◌, length}
use Rattle.std.specs.List.{AllByRecursion}
use Rattle.std.proofs.Common.{arith}
use Rattle.migration_types.specs.declared.cert.Run.{Run}
use Rattle.migration_types.specs.declared.records.LogName.{LogName}
use Rattle.migration_types.specs.declared.records.LogName.TheVariants.{Guest, Source, Link, Lane, Pager}
use Rattle.migration_types.specs.declared.version.Version.{Version}
use Rattle.migration_types.specs.declared.version.Version.TheVariants.{One, Two}
use Rattle.migration_types.specs.declared.size.Size.{Size}
use Rattle.migration_types.specs.declared.size.Size.TheVariants.{Large}
use Rattle.migration_types.specs.Limits.{limits_at_most, most_runs}
use Rattle.migration_types.specs.Certs.{LogFits, RunFits, AreRuns}

-- they are no more
pub few_runs : (version : Version) (size : Size) (n : ℕ) → n ≤ most_runs version size → n ≤ most_runs Two Large
few_runs One size n few = let most = (limits_at_most size).few_records in omega (arith, few, most)
few_runs Two size n few = let most = (limits_at_most size).few_records in omega (arith, few, most)

-- each of them fits
has_log : (log : LogName) → LogFits Two log
has_log Guest = tt
has_log Source = tt
has_log Link = tt
has_log Lane = tt
has_log Pager = tt

run_fits : (version : Version) (size : Size) (run : Run) → RunFits version size run → RunFits Two Large run
run_fits version size run fits = let most = (limits_at_most size).few_records in record { log = has_log run.log; some = fits.some; few = omega (arith, most, fits.few) }

each_fits : (version : Version) (size : Size) (runs : List Run) → AllByRecursion (RunFits version size) runs → AllByRecursion (RunFits Two Large) runs
each_fits version size [] each = tt
each_fits version size (run ∷ runs) each = (run_fits version size run each.0, each_fits version size runs each.1)

pub are_widest : (version : Version) (size : Size) (runs : List Run) → AreRuns version size runs → AreRuns Two Large runs
are_widest version size runs fits = record { few = few_runs version size (length runs) fits.few; each = each_fits version size runs fits.each; alternate = fits.alternate }
