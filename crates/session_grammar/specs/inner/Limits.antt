-- How large the numbers of each size are.
use Rattle.std.specs.Prelude.{◌<◌, ◌^◌}
use Rattle.std.proofs.Common.{arith}
use Rattle.migration_types.specs.declared.size.Size.{Size}
use Rattle.migration_types.specs.Limits.{limits, limits_at_most}

-- the numbers of records have 64 bits, and so do those of logs' lengths
pub records_few : (size : Size) → (limits size).records < 2 ^ 64
records_few size = let most = (limits_at_most size).few_records in omega arith
