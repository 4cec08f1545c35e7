-- Sections one behind the other.
use Rattle.std.proofs.Common.{◌≡◌, ℕ, ◌+◌, length, arith}
use Rattle.migration_types.specs.declared.records.LogName.{LogName}
use Rattle.migration_types.specs.declared.records.LogName.TheVariants.{Guest, Source, Link, Lane, Pager}
use Rattle.migration_types.specs.Receipts.{log_index}
use Rattle.migration_types.specs.Sessions.{Recorded, line_of}
use Rattle.migration_types.specs.inner.Places.{lines_before}

-- a record's line is that of the first of its log, and its place
pub line_from : (s : Recorded) (log : LogName) (n : ℕ) → line_of s (log, n) ≡ line_of s (log, 0) + n
line_from s Guest n = omega arith
line_from s Source n = omega arith
line_from s Link n = omega arith
line_from s Lane n = omega arith
line_from s Pager n = omega arith

-- the first record of a log stands behind the sections of the logs before it
pub first_behind : (s : Recorded) (log : LogName) → line_of s (log, 0) ≡ 6 + length s.init + lines_before s (log_index log)
first_behind s Guest = omega arith
first_behind s Source = omega arith
first_behind s Link = omega arith
first_behind s Lane = omega arith
first_behind s Pager = omega arith
