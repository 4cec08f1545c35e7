use Rattle.std.proofs.Common.{◌≡◌, drop}
use Rattle.migration_types.specs.Follow.{receipt_among}
use Rattle.migration_types.proofs.rows.receipt_among.Given as goal

abbrev pub invariant-loop-field : goal.invariant-loop-field
invariant-loop-field l = receipt_among l.own (drop l.field-index l.fields) ≡ receipt_among l.own l.fields
