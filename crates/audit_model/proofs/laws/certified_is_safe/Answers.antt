use Rattle.audit_model.proofs.Headline.{certified_safe, certified_has_merging, certified_finds_resident, certified_reads_flat, certified_placed_once, certified_placed_untouched, certified_released_as_zeros, certified_is_migrated}
use Rattle.audit_model.proofs.laws.certified_is_safe.Goals as goal

pub returns : goal.returns
returns c = record {
  safe = certified_safe;
  has_merging = certified_has_merging;
  finds_resident = certified_finds_resident;
  reads_flat = certified_reads_flat;
  placed_once = certified_placed_once;
  placed_untouched = certified_placed_untouched;
  released_as_zeros = certified_released_as_zeros;
  migrated = certified_is_migrated;
}
