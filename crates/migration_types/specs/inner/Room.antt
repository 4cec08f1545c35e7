-- Each size leaves some room.
use Rattle.std.specs.Prelude.{◌≤◌}
use Rattle.std.proofs.Common.{arith}
use Rattle.migration_types.specs.declared.size.Size.{Size}
use Rattle.migration_types.specs.declared.size.Size.TheVariants.{Small, Large}
use Rattle.migration_types.specs.declared.size.Limits.{Limits}
use Rattle.migration_types.specs.Limits.{limits}

-- a machine may have a page, and as many cells as pages, and a log may have a record
pub record AreSome (l : Limits) : Type 0 where
  pub pages : 1 ≤ l.pages
  pub cells : l.pages ≤ l.cells
  pub records : 1 ≤ l.records

pub limits_some : (size : Size) → AreSome (limits size)
limits_some Small = record { pages = omega arith; cells = omega arith; records = omega arith }
limits_some Large = record { pages = omega arith; cells = omega arith; records = omega arith }
