-- Operations after a move.
use Rattle.migration_types.specs.declared.version.Version.{Version}
use Rattle.migration_types.specs.Extents.{Extent}
use Rattle.migration_events.specs.declared.ops.Op.{Op}
use Rattle.migration_events.specs.declared.ops.Op.TheVariants.{Read, Write, Release}
use Rattle.migration_events.specs.Ops.{OpFits, LateOpFits}

pub late_op : (version : Version) (e : Extent) (op : Op) → LateOpFits version e op → OpFits e op
late_op version e (Read p c) fits = fits
late_op version e (Write p c x) fits = fits
late_op version e (Release p) fits = fits.1
