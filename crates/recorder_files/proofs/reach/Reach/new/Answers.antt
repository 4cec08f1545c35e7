use Rattle.std.proofs.Common.{refl}
use Rattle.migration_types.specs.declared.records.LogName.TheVariants.{Guest, Source, Link, Lane, Pager}
use Rattle.recorder_files.proofs.reach.Reach.new.Goals as goal

pub returns : goal.returns
returns c = record { count = refl; guest = c.new.ensures Guest; source = c.new-2.ensures Source; link = c.new-3.ensures Link; lane = c.new-4.ensures Lane; pager = c.new-5.ensures Pager }
