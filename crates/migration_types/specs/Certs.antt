-- Certificates and their limits.
use Rattle.std.specs.Prelude.{◌≢◌, ℕ, ◌+◌, ◌<◌, ◌≤◌, List, length, Option, Some, None, slice_index_or}
use Rattle.std.specs.List.{AllByRecursion}
use Rattle.migration_types.specs.declared.cert.Run.{Run}
use Rattle.migration_types.specs.declared.cert.First.{First}
use Rattle.migration_types.specs.declared.cert.Entry.{Entry}
use Rattle.migration_types.specs.declared.cert.Entry.TheVariants.{Nothing, Fresh, Source, Balloon}
use Rattle.migration_types.specs.declared.records.LogName.{LogName}
use Rattle.migration_types.specs.declared.version.Version.{Version}
use Rattle.migration_types.specs.declared.version.Version.TheVariants.{One, Two}
use Rattle.migration_types.specs.declared.size.Size.{Size}
use Rattle.migration_types.specs.Limits.{HasSize, limits, most_pages, most_runs}
use Rattle.migration_types.specs.Sessions.{IsNumber, HasLog}

-- What a certificate says, in its version and within the limits of its size: an entry for each page, and the runs of a
-- merging.
pub record Certified : Type 0 where
  pub version : Version
  pub size : Size
  pub entries : List Entry
  pub runs : List Run

-- the numbers of an entry are numbers of records, and only the second version has fresh pages
abbrev pub FirstFits : Size → Option First → Type 0
FirstFits size None = Unit {0}
FirstFits size (Some first) = IsNumber size first.access × IsNumber size first.see

abbrev pub EntryFits : Version → Size → Entry → Type 0
EntryFits version size Nothing = Unit {0}
EntryFits One size (Fresh first) = ⊥
EntryFits Two size (Fresh first) = IsNumber size first
EntryFits version size (Source send place first) = IsNumber size send × IsNumber size place × FirstFits size first
EntryFits version size (Balloon place first) = IsNumber size place × FirstFits size first

-- the logs that runs of a version may have
abbrev pub LogFits : Version → LogName → Type 0
LogFits version log = HasLog version log

-- a run has at least one record, and at most as many as a log may have
pub record RunFits (version : Version) (size : Size) (run : Run) : Type 0 where
  pub log : LogFits version run.log
  pub some : 1 ≤ run.count
  pub few : run.count ≤ (limits size).records

-- consecutive runs are of different logs
abbrev pub Alternate : List Run → Type 0
Alternate runs = (k : ℕ) (d : Run) → k + 1 < length runs → (slice_index_or runs k d).log ≢ (slice_index_or runs (k + 1) d).log

-- runs within all limits of a version and a size
pub record AreRuns (version : Version) (size : Size) (runs : List Run) : Type 0 where
  pub few : length runs ≤ most_runs version size
  pub each : AllByRecursion (RunFits version size) runs
  pub alternate : Alternate runs

-- a certificate's size is one that its version has, and it is within all limits
pub record IsCert (c : Certified) : Type 0 where
  pub size : HasSize c.version c.size
  pub some_pages : 1 ≤ length c.entries
  pub few_pages : length c.entries ≤ most_pages
  pub own : length c.entries ≤ (limits c.size).pages
  pub entries : AllByRecursion (EntryFits c.version c.size) c.entries
  pub runs : AreRuns c.version c.size c.runs
