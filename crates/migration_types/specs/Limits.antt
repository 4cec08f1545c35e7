-- The limits of what is recorded.
use Rattle.std.specs.Prelude.{ℕ, ◌*◌, ◌≤◌}
use Rattle.std.proofs.Common.{arith}
use Rattle.migration_types.specs.declared.version.Version.{Version}
use Rattle.migration_types.specs.declared.version.Version.TheVariants.{One, Two}
use Rattle.migration_types.specs.declared.size.Size.{Size}
use Rattle.migration_types.specs.declared.size.Size.TheVariants.{Small, Large}
use Rattle.migration_types.specs.declared.size.Limits.{Limits}

-- The limits of a size: how many pages a machine may have, how many cells in all its pages, and how many records a log
-- may have. A record's number is below the last.
abbrev pub limits : Size → Limits
limits Small = record { pages = 65536; cells = 1048576; records = 1048576 }
limits Large = record { pages = 16777216; cells = 16777216; records = 134217728 }

-- only recordings of the second version may be of the large size
abbrev pub HasSize : Version → Size → Type 0
HasSize version Small = Unit {0}
HasSize One Large = ⊥
HasSize Two Large = Unit {0}

-- the greatest of the limits, over all sizes
abbrev pub most_pages : ℕ
most_pages = 16777216

abbrev pub most_cells_in_all : ℕ
most_cells_in_all = 16777216

abbrev pub longest_log : ℕ
longest_log = 134217728

-- no size has a greater limit
pub record AreAtMost (l : Limits) : Type 0 where
  pub few_pages : l.pages ≤ most_pages
  pub few_cells : l.cells ≤ most_cells_in_all
  pub few_records : l.records ≤ longest_log

pub limits_at_most : (size : Size) → AreAtMost (limits size)
limits_at_most Small = record { few_pages = omega arith; few_cells = omega arith; few_records = omega arith }
limits_at_most Large = record { few_pages = omega arith; few_cells = omega arith; few_records = omega arith }

-- the greatest number of cells in a page; the least is 1
abbrev pub most_cells : ℕ
most_cells = 512

-- the number of virtual processors that there may be
abbrev pub vcpus : ℕ
vcpus = 64

-- the greatest number of records in a log of a host
abbrev pub most_records : ℕ
most_records = 1048576

-- The greatest number of runs in a certificate: one for each record that four logs may have in the first version, and
-- five in the second.
abbrev pub most_runs : Version → Size → ℕ
most_runs One size = 4 * (limits size).records
most_runs Two size = 5 * (limits size).records
