-- How many runs a certificate has, and how large the numbers of each size are.
use Rattle.std.specs.Prelude.{ℕ, ◌<◌, ◌≤◌, ◌^◌}
use Rattle.std.proofs.Common.{arith}
use Rattle.migration_types.specs.declared.size.Size.{Size}
use Rattle.migration_types.specs.Limits.{limits, limits_at_most}
use Rattle.migration_types.specs.Sessions.{IsNumber}

-- the numbers of records have 64 bits
pub number_small : (size : Size) (n : ℕ) → IsNumber size n → n < 2 ^ 64
number_small size n lt = let most = (limits_at_most size).few_records in omega arith

-- a run's count has 64 bits
pub count_small : (size : Size) (n : ℕ) → n ≤ (limits size).records → n < 2 ^ 64
count_small size n le = let most = (limits_at_most size).few_records in omega arith
